use Rattle.std.proofs.Common.{◌≡◌, ◌++◌, map, drop}
use Rattle.std.specs.Prelude.{slice_index_or}
use Rattle.table_machine.specs.declared.cell.Cell.TheVariants as cells
use Rattle.table_machine.specs.Tables.{spelled_row}
use Rattle.table_binder.proofs.shown.out_row.Given as goal

abbrev pub invariant-cells : goal.invariant-cells
invariant-cells l = l.out.items ++ spelled_row (drop l.index l.columns) (map (λ p. slice_index_or l.row p cells.Null) (drop l.index l.places)) ≡ spelled_row l.columns (map (λ p. slice_index_or l.row p cells.Null) l.places)
