use Rattle.std.proofs.lemmas.Result.{err_from_is_err_and}
use Rattle.std.specs.Int.{w32}
use Rattle.byte_reader.specs.Fields.{be_number_at}
use Rattle.pg_wire.specs.Bodies.{items_at}
use Rattle.pg_wire.proofs.Loops.{goes_on, fails, is_done}
use Rattle.pg_wire.proofs.counted.oids_of.Goals as goal

pub returns-in_err-oid : goal.returns-in_err-oid
returns-in_err-oid c =
    let p = err_from_is_err_and c.from_residual.result c.from_residual.ensures.1 in
    rw (p.1, p.2) (fails (be_number_at w32) c.in_err-oid.field-0.0 c.oids.oids c.args.count c.oids.counter c.oids.rest.now (items_at (be_number_at w32) c.args.count c.args.bytes.now) c.oids-test.true c.in_err-oid.ensures c.oids.invariant)

pub oids-preserved : goal.oids-preserved
oids-preserved c =
    rw c.in_ok-push.ensures.ok (goes_on (be_number_at w32) c.oids.oids c.args.count c.oids.counter c.oids.rest.now c.in_ok-oid.oid c.in_ok-oid.after.now (items_at (be_number_at w32) c.args.count c.args.bytes.now) c.oids-test.true c.in_ok-oid.ensures c.oids.invariant)

pub returns : goal.returns
returns c = is_done (be_number_at w32) c.oids.oids c.args.count c.oids.counter c.oids.rest.now (items_at (be_number_at w32) c.args.count c.args.bytes.now) c.oids-test.false c.oids.invariant
