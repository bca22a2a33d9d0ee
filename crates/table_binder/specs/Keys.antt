-- The columns by which rows are ordered, as places.
use Rattle.std.specs.Prelude.{List}
use Rattle.sql_tree.specs.declared.statement.OrderKey.{OrderKey}
use Rattle.table_rows.specs.declared.sorting.SortKey.{SortKey}
use Rattle.table_machine.specs.declared.table.ColumnDef.{ColumnDef}
use Rattle.table_machine.specs.Columns.{column_place}

abbrev pub bound_key : List ColumnDef → OrderKey → SortKey
bound_key columns k = record { place = column_place columns k.column; descending = k.descending }
