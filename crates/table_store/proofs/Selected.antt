-- What bound parts find is what the statement asks.
use Rattle.std.proofs.Common.{◌≡◌, ℕ, List, [], ◌∷◌, map, length, refl, ap, ◌∙◌, pos, Option}
use Rattle.std.specs.Prelude.{not, filter}
use Rattle.sql_tree.specs.declared.condition.Cond.{Cond}
use Rattle.sql_tree.specs.declared.condition.Operand.{Operand}
use Rattle.sql_tree.specs.declared.statement.Item.{Item}
use Rattle.sql_tree.specs.declared.statement.Items.{Items}
use Rattle.sql_tree.specs.declared.statement.Items.TheVariants as items
use Rattle.sql_tree.specs.declared.statement.OrderKey.{OrderKey}
use Rattle.table_machine.specs.declared.cell.Cell.{Cell}
use Rattle.table_machine.specs.declared.cell.Cell.TheVariants as cells
use Rattle.table_rows.specs.declared.filter.Filter.{Filter}
use Rattle.table_rows.specs.declared.sorting.SortKey.{SortKey}
use Rattle.table_machine.specs.declared.table.ColumnDef.{ColumnDef}
use Rattle.table_machine.specs.declared.table.OutColumn.{OutColumn}
use Rattle.table_machine.specs.declared.table.Outcome.TheVariants as outcome
use Rattle.table_machine.specs.Columns.{column_place}
use Rattle.table_rows.specs.Filters as filters
use Rattle.table_machine.specs.Machine as machine
use Rattle.table_machine.specs.Machine.{window}
use Rattle.table_machine.specs.Sort.{stable_sort}
use Rattle.table_machine.specs.Stored.{stored}
use Rattle.table_store.specs.Finding.{kept_by, found_by, cells_at, given_cells}
use Rattle.table_store.proofs.Alike.{filter_alike, sort_alike, map_map, map_alike}

module _ (given : List Operand) (table : List ColumnDef) (cond : Option Cond) (condition : Option Filter)
    (same : (row : List Cell) → filters.passes condition row ≡ machine.passes (stored given) table cond row) where
  pub kept_same : (rows : List (List Cell)) → kept_by condition rows ≡ machine.kept (stored given) table cond rows
  kept_same rows = filter_alike (filters.passes condition) (machine.passes (stored given) table cond) same rows

  pub removed_same : (rows : List (List Cell)) → filter (λ row. not (filters.passes condition row)) rows ≡ machine.delete (stored given) table cond rows
  removed_same rows = filter_alike (λ row. not (filters.passes condition row)) (λ row. not (machine.passes (stored given) table cond row)) (λ row. ap not (same row)) rows

  module _ (order : List OrderKey) (keys : List SortKey) (alike : (r s : List Cell) → filters.before keys r s ≡ machine.before (stored given) table order r s) where
    found_same : (rows : List (List Cell)) → found_by condition keys rows ≡ machine.found (stored given) table cond order rows
    found_same rows = ap (stable_sort (filters.before keys)) (kept_same rows) ∙ sort_alike (filters.before keys) (machine.before (stored given) table order) alike (machine.kept (stored given) table cond rows)

    cells_same : (all : List Item) (row : List Cell) → cells_at (map (λ (i : Item). column_place table i.column) all) row ≡ machine.item_cells (stored given) table all row
    cells_same all row = map_map (λ (i : Item). column_place table i.column) (λ p. filters.cell_at row p) all

    pub given_same : (all : Items) (limit offset : Option ℕ) (rows : List (List Cell)) → given_cells table all condition keys limit offset rows ≡ machine.select (stored given) table all cond order limit offset rows
    given_same items.All limit offset rows = ap (window limit offset) (found_same rows)
    given_same (items.Count label) limit offset rows = ap (λ n. window limit offset ((cells.Int (pos n) ∷ []) ∷ [])) (ap length (kept_same rows))
    given_same (items.Columns all) limit offset rows =
        map_alike (cells_at (map (λ (i : Item). column_place table i.column) all)) (machine.item_cells (stored given) table all) (cells_same all) (window limit offset (found_by condition keys rows))
        ∙ ap (λ w. map (machine.item_cells (stored given) table all) (window limit offset w)) (found_same rows)

-- an outcome by its parts
pub rows_of : (columns others : List OutColumn) (rows more : List (List (Option (List ℕ)))) → columns ≡ others → rows ≡ more → outcome.Rows columns rows ≡ outcome.Rows others more
rows_of columns others rows more a b = rw (a, b) refl
