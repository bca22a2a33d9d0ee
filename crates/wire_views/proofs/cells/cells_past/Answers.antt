use Rattle.wire_views.proofs.Past.{begins, one_more, stops, ends}
use Rattle.wire_views.proofs.cells.cells_past.Goals as goal

pub cells-init : goal.cells-init
cells-init c = begins c.args.count c.args.bytes.now

pub returns-in-Err : goal.returns-in-Err
returns-in-Err c = stops c.args.count c.cells.counter c.cells.rest.now c.args.bytes.now c.in-Err.left c.cells-test.true c.in-Err.ensures c.cells.invariant

pub cells-preserved : goal.cells-preserved
cells-preserved c = one_more c.args.count c.cells.counter c.cells.rest.now c.args.bytes.now _ c.in-Ok.after.now c.cells-test.true c.in-Ok.ensures c.cells.invariant

pub returns : goal.returns
returns c = ends c.args.count c.cells.counter c.cells.rest.now c.args.bytes.now c.cells-test.false c.cells.invariant
