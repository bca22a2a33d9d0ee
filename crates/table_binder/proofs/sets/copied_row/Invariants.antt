use Rattle.std.proofs.Common.{◌≡◌, take}
use Rattle.table_binder.proofs.sets.copied_row.Given as goal

abbrev pub invariant-cells : goal.invariant-cells
invariant-cells l = l.new.items ≡ take l.cell-index l.row
