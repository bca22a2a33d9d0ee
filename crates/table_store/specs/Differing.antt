-- Keys of which none is NULL and no two are equal.
use Rattle.std.specs.Prelude.{ℕ, ◌≡◌, ◌<◌, ◌↔◌, true, false, List, length, Option, Some, None, slice_index_or}
use Rattle.std.specs.List.{AllByRecursion}
use Rattle.sql_tree.specs.declared.condition.Operand.{Operand}
use Rattle.table_machine.specs.declared.cell.Cell.{Cell}
use Rattle.table_machine.specs.declared.cell.Cell.TheVariants as cells
use Rattle.table_machine.specs.declared.table.TableDef.{TableDef}
use Rattle.table_machine.specs.Faults.{are_equal, key_fault}
use Rattle.table_machine.specs.Stored.{stored, compare, is_null}
use Rattle.table_machine.specs.Tables.{Table}
use Rattle.table_store.specs.Changing.{keys_in}

pub record Differ (keys : List Cell) : Type 0 where
  pub some : (i : ℕ) → i < length keys → is_null (slice_index_or keys i cells.Null) ≡ false
  -- at two places they are not equal
  pub once : (i j : ℕ) → i < length keys → j < length keys → are_equal (compare (slice_index_or keys i cells.Null) (slice_index_or keys j cells.Null)) ≡ true → i ≡ j

-- the keys of rows, where the table has one
abbrev pub KeysDiffer : Option ℕ → List (List Cell) → Type 0
KeysDiffer None rows = Unit {0}
KeysDiffer (Some place) rows = Differ (keys_in place rows)

abbrev pub AllDiffer : List (Table Cell) → Type 0
AllDiffer tables = AllByRecursion (λ (t : Table Cell). KeysDiffer t.def.key t.rows) tables

-- rows have no fault of the key exactly where their keys differ
abbrev pub KeyIsExact : Type 0
KeyIsExact = (given : List Operand) (def : TableDef) (rows : List (List Cell)) → (key_fault (stored given) def.columns def.key rows ≡ None) ↔ KeysDiffer def.key rows
