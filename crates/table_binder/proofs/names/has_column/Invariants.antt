use Rattle.std.proofs.Common.{◌≡◌, drop}
use Rattle.table_machine.specs.Columns.{has_column}
use Rattle.table_binder.proofs.names.has_column.Given as goal

abbrev pub invariant-columns : goal.invariant-columns
invariant-columns l = has_column (drop l.column-index l.columns) l.name ≡ has_column l.columns l.name
