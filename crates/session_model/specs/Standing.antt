-- Stored tables that stand for plaintext tables: the same rows in the same order, each protected cell replaced by what is
-- stored for it.
use Rattle.std.specs.Prelude.{ℕ, ◌≡◌, List, [], ◌∷◌, map}
use Rattle.std.specs.List.{AllByRecursion}
use Rattle.table_machine.specs.declared.cell.Cell.{Cell}
use Rattle.table_machine.specs.declared.cell.Cell.TheVariants as cell
use Rattle.table_machine.specs.Tables.{Table}
use Rattle.session_model.specs.Notes.{notes_with}
use Rattle.session_model.specs.Plain.{PlainCell}

abbrev pub stored_as : PlainCell → Cell
stored_as (PlainCell.Public c) = c
stored_as (PlainCell.Protected owner plain stored) = cell.Bytes stored

abbrev pub stored_rows : List (List PlainCell) → List (List Cell)
stored_rows rows = map (map stored_as) rows

abbrev pub stored_table : Table PlainCell → Table Cell
stored_table t = record { def = t.def; rows = stored_rows t.rows }

abbrev pub stored_tables : List (Table PlainCell) → List (Table Cell)
stored_tables tables = map stored_table tables

-- what a protected cell means is told by its stored bytes
module _ (IsStored : List ℕ → List ℕ → List ℕ → Type 0) where
  -- a row of notes: a public cell, and a protected one that has its meaning
  abbrev pub IsMeant : List PlainCell → Type 0
  IsMeant (PlainCell.Public c ∷ PlainCell.Protected owner plain stored ∷ []) = IsStored owner plain stored
  IsMeant row = ⊥

  -- the tables of this stage, each row with its meaning
  pub record AreMeant (tables : List (Table PlainCell)) : Type 0 where
    pub rows : List (List PlainCell)
    pub are : tables ≡ notes_with rows
    pub each : AllByRecursion IsMeant rows

  -- the stored tables stand for the plaintext tables
  pub record StandFor (tables : List (Table Cell)) (plain : List (Table PlainCell)) : Type 0 where
    pub same : tables ≡ stored_tables plain
    pub meant : AreMeant plain
