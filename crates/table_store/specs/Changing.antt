-- Rows that are changed, and the keys that they have then.
use Rattle.std.specs.Prelude.{ℕ, ◌≡◌, ◌==◌, List, [], ◌∷◌, ◌++◌, map, Bool, if◌then◌else◌, Option, Some, None, option_map}
use Rattle.std.specs.List.{list_any}
use Rattle.sql_tree.specs.declared.condition.Cond.{Cond}
use Rattle.sql_tree.specs.declared.condition.Operand.{Operand}
use Rattle.sql_tree.specs.declared.statement.SetPair.{SetPair}
use Rattle.table_binder.specs.declared.sets.SetCell.{SetCell}
use Rattle.table_binder.specs.Sets.{set_cells}
use Rattle.table_machine.specs.declared.cell.Cell.{Cell}
use Rattle.table_rows.specs.declared.filter.Filter.{Filter}
use Rattle.table_machine.specs.declared.table.LabFault.{LabFault}
use Rattle.table_machine.specs.declared.table.TableDef.{TableDef}
use Rattle.table_machine.specs.Faults.{broken_fault, key_name, key_fault, first_unread, set_places, where_places}
use Rattle.table_rows.specs.Filters.{passes, cell_at}
use Rattle.table_machine.specs.Stored.{stored}
use Rattle.table_store.specs.Keys.{broken_stored}

-- the keys of rows at a place
abbrev pub keys_in : ℕ → List (List Cell) → List Cell
keys_in place rows = map (λ row. cell_at row place) rows

-- the key of a table holds of its rows
abbrev pub KeyHolds : TableDef → List (List Cell) → Type 0
KeyHolds def rows = key_fault (stored []) def.columns def.key rows ≡ None

-- the fault of a table's key, where this is what is broken at its place
abbrev pub fault_at : TableDef → Option ℕ → (ℕ → Option LabFault) → Option LabFault
fault_at def None broken = None
fault_at def (Some place) broken = broken place

abbrev pub behind_fault : TableDef → List (List Cell) → List (List Cell) → ℕ → Option LabFault
behind_fault def rows new place = option_map (broken_fault (key_name (stored []) def.columns place)) (broken_stored (keys_in place rows) (keys_in place new))

-- why new rows can't stand behind a table's rows
abbrev pub new_fault : TableDef → List (List Cell) → List (List Cell) → Option LabFault
new_fault def rows new = fault_at def def.key (behind_fault def rows new)

-- ---- replaced rows

abbrev pub replacement : Option Filter → List SetCell → List Cell → Option (List Cell)
replacement filter sets row = if passes filter row then Some (set_cells sets row) else None

-- a row, or what replaces it
abbrev pub chosen : List Cell → Option (List Cell) → List Cell
chosen row None = row
chosen row (Some new) = new

abbrev pub chosen_rows : List (List Cell) → List (Option (List Cell)) → List (List Cell)
chosen_rows [] changed = []
chosen_rows (row ∷ rows) [] = row ∷ rows
chosen_rows (row ∷ rows) (new ∷ changed) = chosen row new ∷ chosen_rows rows changed

abbrev pub sets_place : ℕ → List SetCell → Bool
sets_place place sets = list_any (λ (s : SetCell). s.place == place) sets

-- why changed rows can't stand: a key that wasn't set stands as before
abbrev pub set_fault : TableDef → List SetCell → List (List Cell) → ℕ → Option LabFault
set_fault def sets rows place = if sets_place place sets then behind_fault def [] rows place else None

abbrev pub changed_fault : TableDef → List SetCell → List (List Cell) → Option LabFault
changed_fault def sets rows = fault_at def def.key (set_fault def sets rows)

-- the first value of an UPDATE that isn't read
abbrev pub update_fault : List Operand → TableDef → List SetPair → Option Cond → Option LabFault
update_fault given def sets cond = first_unread (stored given) (set_places def.columns sets ++ where_places def.columns cond)
