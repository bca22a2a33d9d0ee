use Rattle.std.proofs.lemmas.Result.{err_from_is_err_and}
use Rattle.pg_wire.specs.Bodies.{cell_at, items_at}
use Rattle.pg_wire.proofs.Loops.{goes_on, fails, is_done}
use Rattle.pg_wire.proofs.counted.cells_of.Goals as goal

pub returns-in_err-cell : goal.returns-in_err-cell
returns-in_err-cell c =
    let p = err_from_is_err_and c.from_residual.result c.from_residual.ensures.1 in
    rw (p.1, p.2) (fails cell_at c.in_err-cell.field-0.0 c.cells.cells c.args.count c.cells.counter c.cells.rest.now (items_at cell_at c.args.count c.args.bytes.now) c.cells-test.true c.in_err-cell.ensures c.cells.invariant)

pub cells-preserved : goal.cells-preserved
cells-preserved c =
    rw c.in_ok-push.ensures.ok (goes_on cell_at c.cells.cells c.args.count c.cells.counter c.cells.rest.now c.in_ok-cell.cell c.in_ok-cell.after.now (items_at cell_at c.args.count c.args.bytes.now) c.cells-test.true c.in_ok-cell.ensures c.cells.invariant)

pub returns : goal.returns
returns c = is_done cell_at c.cells.cells c.args.count c.cells.counter c.cells.rest.now (items_at cell_at c.args.count c.args.bytes.now) c.cells-test.false c.cells.invariant
