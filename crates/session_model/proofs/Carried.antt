-- A statement on the stored tables that stand for plaintext tables is the statement on those.
use Rattle.std.proofs.Common.{◌≡◌, ℕ, pos, ◌<◌, ◌^◌, Bool, true, List, [], ◌∷◌, ◌++◌, map, if◌then◌else◌, refl, sym, ap, subst, ◌∙◌}
use Rattle.std.proofs.lemmas.Bool.{lt-ltb}
use Rattle.std.proofs.lemmas.List.{map-append}
use Rattle.acra_base.specs.declared.kind.ValueKind.TheVariants as kind
use Rattle.sql_tree.specs.declared.condition.Operand.TheVariants as operand
use Rattle.sql_tree.specs.declared.statement.Statement.{Statement}
use Rattle.table_machine.specs.declared.cell.Cell.{Cell}
use Rattle.table_machine.specs.declared.cell.Cell.TheVariants as cell
use Rattle.table_machine.specs.Machine.{value, beyond}
use Rattle.table_machine.specs.Stored.{stored, text_read}
use Rattle.table_machine.specs.Tables.{Table, executed}
use Rattle.session_model.specs.Notes.{notes_with}
use Rattle.session_model.specs.Served.{is_served}
use Rattle.session_model.specs.Plain.{PlainCell, plain, public_read}
use Rattle.session_model.specs.Reply.{plain_executed}
use Rattle.session_model.specs.Rewritten.{stored_text, rewritten}
use Rattle.session_model.specs.Standing.{stored_as, stored_rows, stored_tables, AreMeant}
use Rattle.session_model.specs.Laws.{ReadsBack}
use Rattle.session_model.proofs.Parts.{Served, Fits, tree_of, by_parts}
use Rattle.session_model.proofs.Executed.{select_executed, insert_executed}

-- ---- the values of a row

pub number_stored : (n : ℕ) → n < 2 ^ 63 → (stored []).read kind.Int64 (operand.Number (pos n)) ≡ value (cell.Int (pos n))
number_stored n h = ap (λ (b : Bool). if b then value (cell.Int (pos n)) else beyond) (lt-ltb n (2 ^ 63) h)

pub number_plain : (given : List PlainCell) (n : ℕ) → n < 2 ^ 63 → (plain given).read kind.Int64 (operand.Number (pos n)) ≡ value (PlainCell.Public (cell.Int (pos n)))
number_plain given n h = ap public_read (number_stored n h)

pub bytes_stored : (bytes : List ℕ) → ReadsBack bytes → (stored []).read kind.Bytes (operand.Text (stored_text bytes)) ≡ value (cell.Bytes bytes)
bytes_stored bytes e = ap (text_read kind.Bytes) e

-- ---- the tables then

module _ (owner bytes : List ℕ) (e : ReadsBack bytes) where
  abbrev Stands : Statement → Type 0
  Stands tree = (rows : List (List PlainCell)) → executed (stored []) (rewritten bytes tree) (stored_tables (notes_with rows)) ≡ stored_tables (plain_executed owner bytes tree (notes_with rows))

  parts_stand : (v : Served) → Fits v → Stands (tree_of v)
  parts_stand (Served.Selects chosen) h rows =
      select_executed (stored []) chosen (stored_rows rows) ∙ sym (ap stored_tables (select_executed (plain []) chosen rows))
  parts_stand (Served.Inserts listed n text) h rows =
      insert_executed (stored []) listed n (operand.Text (stored_text bytes)) (cell.Int (pos n)) (cell.Bytes bytes) (stored_rows rows) (record { number = number_stored n h; other = bytes_stored bytes e })
      ∙ ap notes_with (sym (map-append (map stored_as) rows ((PlainCell.Public (cell.Int (pos n)) ∷ PlainCell.Protected owner text bytes ∷ []) ∷ [])))
      ∙ sym (
      ap stored_tables
      (insert_executed (plain (PlainCell.Protected owner text bytes ∷ [])) listed n (operand.Parameter 1) (PlainCell.Public (cell.Int (pos n))) (PlainCell.Protected owner text bytes) rows (record { number = number_plain (PlainCell.Protected owner text bytes ∷ []) n h; other = refl }))
      )

  pub tables_stored : (tree : Statement) → is_served tree ≡ true → Stands tree
  tables_stored = by_parts Stands parts_stand

pub tables_stand : (IsStored : List ℕ → List ℕ → List ℕ → Type 0) (owner bytes : List ℕ) (tree : Statement) (tables : List (Table PlainCell)) → is_served tree ≡ true → ReadsBack bytes → AreMeant IsStored tables
    → executed (stored []) (rewritten bytes tree) (stored_tables tables) ≡ stored_tables (plain_executed owner bytes tree tables)
tables_stand IsStored owner bytes tree tables is e m =
    subst (λ (ts : List (Table PlainCell)). executed (stored []) (rewritten bytes tree) (stored_tables ts) ≡ stored_tables (plain_executed owner bytes tree ts)) (sym m.are) (tables_stored owner bytes e tree is m.rows)
