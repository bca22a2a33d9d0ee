use Rattle.std.proofs.Common.{◌≡◌, map, take}
use Rattle.table_machine.specs.declared.cell.Cell.TheVariants as cell
use Rattle.table_machine.specs.declared.table.ColumnDef.{ColumnDef}
use Rattle.table_binder.proofs.rows.null_row.Given as goal

abbrev pub invariant-columns : goal.invariant-columns
invariant-columns l = l.row.items ≡ map (λ (c : ColumnDef). cell.Null) (take l.index l.columns)
