-- What bound parts find in a table.
use Rattle.std.specs.Prelude.{ℕ, pos, List, [], ◌∷◌, map, filter, length, Option, slice_index_or}
use Rattle.sql_tree.specs.declared.condition.Operand.{Operand}
use Rattle.sql_tree.specs.declared.statement.Item.{Item}
use Rattle.sql_tree.specs.declared.statement.Items.{Items}
use Rattle.sql_tree.specs.declared.statement.Items.TheVariants as items
use Rattle.table_machine.specs.declared.cell.Cell.{Cell}
use Rattle.table_machine.specs.declared.cell.Cell.TheVariants as cells
use Rattle.table_rows.specs.declared.filter.Filter.{Filter}
use Rattle.table_rows.specs.declared.sorting.SortKey.{SortKey}
use Rattle.table_machine.specs.declared.table.ColumnDef.{ColumnDef}
use Rattle.table_machine.specs.declared.table.OutColumn.{OutColumn}
use Rattle.table_machine.specs.Columns.{column_place}
use Rattle.table_rows.specs.Filters.{passes, before}
use Rattle.table_machine.specs.Machine.{window, select}
use Rattle.table_machine.specs.Sort.{stable_sort}
use Rattle.table_machine.specs.Stored.{stored}
use Rattle.table_machine.specs.Tables.{Answer, Rows, spelled_row, out_columns}
use Rattle.table_store.specs.declared.queries.Query.{Query}

abbrev pub kept_by : Option Filter → List (List Cell) → List (List Cell)
kept_by condition rows = filter (passes condition) rows

abbrev pub found_by : Option Filter → List SortKey → List (List Cell) → List (List Cell)
found_by condition keys rows = stable_sort (before keys) (kept_by condition rows)

abbrev pub cells_at : List ℕ → List Cell → List Cell
cells_at places row = map (λ p. slice_index_or row p cells.Null) places

abbrev pub spelled_items : List OutColumn → List ℕ → List Cell → List (Option (List ℕ))
spelled_items columns places row = spelled_row columns (cells_at places row)

-- the cells of a SELECT, by the bound condition and keys
abbrev pub given_cells : List ColumnDef → Items → Option Filter → List SortKey → Option ℕ → Option ℕ → List (List Cell) → List (List Cell)
given_cells table items.All condition keys limit offset rows = window limit offset (found_by condition keys rows)
given_cells table (items.Count label) condition keys limit offset rows = window limit offset ((cells.Int (pos (length (kept_by condition rows))) ∷ []) ∷ [])
given_cells table (items.Columns all) condition keys limit offset rows =
    map (cells_at (map (λ (i : Item). column_place table i.column) all)) (window limit offset (found_by condition keys rows))

abbrev pub selected : ℕ → List ColumnDef → Query → List Operand → List (List Cell) → Answer Cell
selected number table query given rows =
    Rows (out_columns number table query.items.now) (select (stored given) table query.items.now query.cond.now query.order.now query.limit query.offset rows)
