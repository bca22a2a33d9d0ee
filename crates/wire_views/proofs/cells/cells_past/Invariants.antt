use Rattle.wire_views.proofs.Past.{Past}
use Rattle.wire_views.proofs.cells.cells_past.Given as goal

abbrev pub invariant-cells : goal.invariant-cells
invariant-cells l = Past l.count l.counter l.rest l.bytes
