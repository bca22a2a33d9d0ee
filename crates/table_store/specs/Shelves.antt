-- The tables that a machine holds: their definitions, and the rows of the first of them; the others have none.
use Rattle.std.specs.Prelude.{ℕ, ◌≡◌, ◌≤◌, ◌<◌, Bool, true, not, ◌&&◌, List, [], ◌∷◌, map, length, Option, Some, None}
use Rattle.std.specs.List.{All, AllByRecursion, list_any}
use Rattle.table_machine.specs.declared.cell.Cell.{Cell}
use Rattle.table_machine.specs.declared.table.ColumnDef.{ColumnDef}
use Rattle.table_machine.specs.declared.table.TableDef.{TableDef}
use Rattle.table_machine.specs.Columns.{same}
use Rattle.table_machine.specs.Tables.{Table}
use Rattle.table_store.specs.Changing.{KeyHolds}

-- ---- definitions that can stand

-- no two names are equal
abbrev pub are_distinct : List (List ℕ) → Bool
are_distinct [] = true
are_distinct (name ∷ names) = not (list_any (same name) names) && are_distinct names

-- a key is one of the columns
abbrev pub IsKey : Option ℕ → ℕ → Type 0
IsKey None count = Unit {0}
IsKey (Some k) count = k < count

pub record IsTable (def : TableDef) : Type 0 where
  pub few : length def.columns ≤ 256
  pub distinct : are_distinct (map (λ (c : ColumnDef). c.name) def.columns) ≡ true
  pub key : IsKey def.key (length def.columns)

pub record AreTables (defs : List TableDef) : Type 0 where
  pub few : length defs ≤ 256
  pub distinct : are_distinct (map (λ (d : TableDef). d.name) defs) ≡ true
  pub each : All IsTable defs

abbrev pub empty_table : TableDef → Table Cell
empty_table def = record { def = def; rows = [] }

-- ---- tables and their rows

abbrev pub joined : List TableDef → List (List (List Cell)) → List (Table Cell)
joined [] rows = []
joined (def ∷ defs) [] = empty_table def ∷ joined defs []
joined (def ∷ defs) (rows ∷ more) = record { def = def; rows = rows } ∷ joined defs more

abbrev pub is_def : List ℕ → TableDef → Bool
is_def name def = same def.name name

-- each table's key holds of its rows
abbrev pub AllHold : List (Table Cell) → Type 0
AllHold tables = AllByRecursion (λ (t : Table Cell). KeyHolds t.def t.rows) tables
