use Rattle.std.proofs.lemmas.Result.{err_from_is_err_and}
use Rattle.pg_wire.specs.Bodies.{format_at, items_at}
use Rattle.pg_wire.proofs.Loops.{goes_on, fails, is_done}
use Rattle.pg_wire.proofs.counted.formats_of.Goals as goal

pub returns-in_err-format : goal.returns-in_err-format
returns-in_err-format c =
    let p = err_from_is_err_and c.from_residual.result c.from_residual.ensures.1 in
    rw (p.1, p.2) (fails format_at c.in_err-format.field-0.0 c.formats.formats c.args.count c.formats.counter c.formats.rest.now (items_at format_at c.args.count c.args.bytes.now) c.formats-test.true c.in_err-format.ensures c.formats.invariant)

pub formats-preserved : goal.formats-preserved
formats-preserved c =
    rw c.in_ok-push.ensures.ok (goes_on format_at c.formats.formats c.args.count c.formats.counter c.formats.rest.now c.in_ok-format.format c.in_ok-format.after.now (items_at format_at c.args.count c.args.bytes.now) c.formats-test.true c.in_ok-format.ensures c.formats.invariant)

pub returns : goal.returns
returns c = is_done format_at c.formats.formats c.args.count c.formats.counter c.formats.rest.now (items_at format_at c.args.count c.args.bytes.now) c.formats-test.false c.formats.invariant
