use Rattle.std.proofs.Common.{◌≡◌, map, take, None}
use Rattle.table_machine.specs.declared.table.ColumnDef.{ColumnDef}
use Rattle.table_machine.specs.Tables.{out_column}
use Rattle.table_binder.proofs.columns.all_columns.Given as goal

abbrev pub invariant-columns : goal.invariant-columns
invariant-columns l = l.out.items ≡ map (λ (c : ColumnDef). out_column l.number l.columns None c.name) (take l.column-index l.columns)
