-- A part of a list that is mapped.
use Rattle.std.proofs.Common.{◌≡◌, ℕ, List, [], ◌∷◌, map, length, refl, sym, ap, ◌∙◌, Option}
use Rattle.sql_tree.specs.declared.statement.Item.{Item}
use Rattle.sql_tree.specs.declared.statement.Items.{Items}
use Rattle.sql_tree.specs.declared.statement.Items.TheVariants as items
use Rattle.table_machine.specs.declared.cell.Cell.{Cell}
use Rattle.table_rows.specs.declared.filter.Filter.{Filter}
use Rattle.table_rows.specs.declared.sorting.SortKey.{SortKey}
use Rattle.table_machine.specs.declared.table.ColumnDef.{ColumnDef}
use Rattle.table_machine.specs.declared.table.OutColumn.{OutColumn}
use Rattle.table_machine.specs.Columns.{column_place}
use Rattle.table_rows.specs.Filters.{before}
use Rattle.table_machine.specs.Machine.{window}
use Rattle.table_machine.specs.Tables.{spelled_row}
use Rattle.table_store.specs.Finding.{kept_by, found_by, cells_at, spelled_items, given_cells}
use Rattle.table_machine.proofs.Statements.{window_map}
use Rattle.table_store.proofs.Alike.{sort_none, map_map}

-- without keys rows stay as they are
pub found_unsorted : (condition : Option Filter) (keys : List SortKey) (rows : List (List Cell)) → length keys ≡ 0 → found_by condition keys rows ≡ kept_by condition rows
found_unsorted condition [] rows e = sort_none (before []) (λ x y. refl) (kept_by condition rows)
found_unsorted condition (k ∷ keys) rows e = cc

module _ {X : Type 0} (view : X → List Cell) (table : List ColumnDef) (all : Items) (condition : Option Filter) (keys : List SortKey) (limit offset : Option ℕ) (rows : List (List Cell)) (found : List X)
    (columns : List OutColumn) (is : map view found ≡ found_by condition keys rows) where
  windowed : map view (window limit offset found) ≡ window limit offset (found_by condition keys rows)
  windowed = sym (window_map view limit offset found) ∙ ap (window limit offset) is

  pub whole_given : all ≡ items.All → map (spelled_row columns) (map view (window limit offset found)) ≡ map (spelled_row columns) (given_cells table all condition keys limit offset rows)
  whole_given e = ap (map (spelled_row columns)) (windowed ∙ sym (ap (λ w. given_cells table w condition keys limit offset rows) e))

  pub items_given : (list : List Item) (places : List ℕ) → all ≡ items.Columns list → places ≡ map (λ (i : Item). column_place table i.column) list
      → map (spelled_items columns places) (map view (window limit offset found)) ≡ map (spelled_row columns) (given_cells table all condition keys limit offset rows)
  items_given list places e p =
      rw (e, p, windowed) (sym (map_map (cells_at (map (λ (i : Item). column_place table i.column) list)) (spelled_row columns) (window limit offset (found_by condition keys rows))))
