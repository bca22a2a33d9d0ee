use Rattle.std.proofs.Common.{◌≡◌, drop}
use Rattle.wire_views.proofs.row.RowView.cell.Given as goal

abbrev pub invariant-cells : goal.invariant-cells
invariant-cells l = drop l.counter l.self ≡ l.row
