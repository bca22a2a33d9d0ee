-- Tables, over any kind of cells, and what a statement gives.
use Rattle.std.specs.Prelude.{ℕ, ◌+◌, Bool, List, [], ◌∷◌, map, length, codes, Option, Some, None, unwrap_or, slice_get, slice_set}
use Rattle.acra_base.specs.declared.kind.ValueKind.TheVariants as kind
use Rattle.sql_tree.specs.declared.statement.Item.{Item}
use Rattle.sql_tree.specs.declared.statement.Items.{Items}
use Rattle.sql_tree.specs.declared.statement.Items.TheVariants as items
use Rattle.sql_tree.specs.declared.statement.Statement.{Statement}
use Rattle.sql_tree.specs.declared.statement.Statement.TheVariants as statement
use Rattle.table_machine.specs.declared.cell.Cell.{Cell}
use Rattle.table_machine.specs.declared.table.ColumnDef.{ColumnDef}
use Rattle.table_machine.specs.declared.table.TableDef.{TableDef}
use Rattle.table_machine.specs.declared.table.OutColumn.{OutColumn}
use Rattle.table_machine.specs.declared.table.LabFault.{LabFault}
use Rattle.table_machine.specs.declared.table.Outcome.{Outcome}
use Rattle.table_machine.specs.declared.table.Outcome.TheVariants as outcome
use Rattle.table_machine.specs.Columns.{same, place, column_place, kind_of}
use Rattle.table_machine.specs.Machine.{Cells, kept, select, insert, update, delete}
use Rattle.table_machine.specs.Faults.{fault, key_fault, no_table}
use Rattle.table_machine.specs.Stored.{spelled}

pub record Table (C : Type 0) : Type 0 where
  pub def : TableDef
  pub rows : List (List C)

-- what a statement gives: rows of cells under these columns, a number of rows, or a fault
pub data Answer (C : Type 0) : Type 0 where
  Rows : List OutColumn → List (List C) → Answer C
  Count : ℕ → Answer C
  Fault : LabFault → Answer C

-- an answer, and the rows of the table then
pub record Step (C : Type 0) : Type 0 where
  pub answer : Answer C
  pub rows : List (List C)

-- ---- the columns of a result

module _ (number : ℕ) (columns : List ColumnDef) where
  -- a table's OID is 16384 and its number; columns count from 1
  abbrev pub out_column : Option (List ℕ) → List ℕ → OutColumn
  out_column label name = record { name = unwrap_or label name; table = 16384 + number; attribute = column_place columns name + 1; kind = kind_of columns name }

  abbrev pub count_column : Option (List ℕ) → OutColumn
  count_column label = record { name = unwrap_or label (codes "count"); table = 0; attribute = 0; kind = kind.Int64 }

  abbrev pub out_columns : Items → List OutColumn
  out_columns items.All = map (λ (c : ColumnDef). out_column None c.name) columns
  out_columns (items.Count label) = count_column label ∷ []
  out_columns (items.Columns all) = map (λ (i : Item). out_column i.label i.column) all

-- ---- which table a statement is on

abbrev pub table_named : Statement → Option (List ℕ)
table_named (statement.Select table all cond order limit offset) = Some table
table_named (statement.Insert table names new) = Some table
table_named (statement.Update table sets cond) = Some table
table_named (statement.Delete table cond) = Some table
table_named (statement.Set name v) = None
table_named statement.Empty = None

abbrev pub is_table : {C : Type 0} → List ℕ → Table C → Bool
is_table name t = same t.def.name name

abbrev pub table_place : {C : Type 0} → List ℕ → List (Table C) → ℕ
table_place name tables = place (is_table name) tables

module _ {C : Type 0} (cells : Cells C) where
  -- a change holds where the key allows it
  abbrev pub unless : Option LabFault → ℕ → List (List C) → List (List C) → Step C
  unless None n changed rows = record { answer = Count n; rows = changed }
  unless (Some f) n changed rows = record { answer = Fault f; rows = rows }

  abbrev pub change : TableDef → ℕ → List (List C) → List (List C) → Step C
  change def n changed rows = unless (key_fault cells def.columns def.key changed) n changed rows

  -- what a statement without a fault does to a table of this number
  abbrev pub performed : ℕ → TableDef → Statement → List (List C) → Step C
  performed number def (statement.Select table all cond order limit offset) rows =
      record { answer = Rows (out_columns number def.columns all) (select cells def.columns all cond order limit offset rows); rows = rows }
  performed number def (statement.Insert table names new) rows = change def (length new) (insert cells def.columns names new rows) rows
  performed number def (statement.Update table sets cond) rows = change def (length (kept cells def.columns cond rows)) (update cells def.columns sets cond rows) rows
  performed number def (statement.Delete table cond) rows =
      record { answer = Count (length (kept cells def.columns cond rows)); rows = delete cells def.columns cond rows }
  performed number def _ rows = record { answer = Count 0; rows = rows }

  abbrev pub step_unless : Option LabFault → ℕ → TableDef → Statement → List (List C) → Step C
  step_unless (Some f) number def tree rows = record { answer = Fault f; rows = rows }
  step_unless None number def tree rows = performed number def tree rows

  -- a fault changes nothing
  abbrev pub step : ℕ → Table C → Statement → Step C
  step number t tree = step_unless (fault cells t.def.columns tree) number t.def tree t.rows

  -- ---- several tables

  abbrev pub answer_of : List ℕ → ℕ → Option (Table C) → Statement → Answer C
  answer_of name number None tree = Fault (no_table name)
  answer_of name number (Some t) tree = (step number t tree).answer

  abbrev pub tables_of : ℕ → Option (Table C) → Statement → List (Table C) → List (Table C)
  tables_of number None tree tables = tables
  tables_of number (Some t) tree tables = slice_set tables number (record { def = t.def; rows = (step number t tree).rows })

  -- SET and the empty statement touch no table
  abbrev pub answer_named : Option (List ℕ) → Statement → List (Table C) → Answer C
  answer_named None tree tables = Count 0
  answer_named (Some name) tree tables = answer_of name (table_place name tables) (slice_get tables (table_place name tables)) tree

  abbrev pub tables_named : Option (List ℕ) → Statement → List (Table C) → List (Table C)
  tables_named None tree tables = tables
  tables_named (Some name) tree tables = tables_of (table_place name tables) (slice_get tables (table_place name tables)) tree tables

  -- what a statement gives, and the tables then
  abbrev pub answered : Statement → List (Table C) → Answer C
  answered tree tables = answer_named (table_named tree) tree tables

  abbrev pub executed : Statement → List (Table C) → List (Table C)
  executed tree tables = tables_named (table_named tree) tree tables

-- ---- an answer of stored cells, told in text form

abbrev pub spelled_row : List OutColumn → List Cell → List (Option (List ℕ))
spelled_row [] cells = []
spelled_row (column ∷ columns) [] = []
spelled_row (column ∷ columns) (c ∷ cells) = spelled column.kind c ∷ spelled_row columns cells

abbrev pub told : Answer Cell → Outcome
told (Rows columns rows) = outcome.Rows columns (map (spelled_row columns) rows)
told (Count n) = outcome.Count n
told (Fault f) = outcome.Fault f
