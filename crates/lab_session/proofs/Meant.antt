-- After a statement the stored tables still stand for the plaintext tables, each cell with its meaning.
use Rattle.std.proofs.Common.{◌≡◌, ℕ, pos, ◌+◌, ◌≤◌, nat_le, true, ◌&&◌, List, [], ◌∷◌, ◌++◌, length, Some, refl, sym, ap, subst, ◌∙◌, arith}
use Rattle.std.specs.List.{AllByRecursion, list_all}
use Rattle.std.specs.Cmp.{first_so}
use Rattle.std.proofs.lemmas.Bool.{leb-true, and_parts}
use Rattle.rand_chacha.specs.ChaCha.{ChaCha}
use Rattle.hex.specs.Hex.{IsBytes}
use Rattle.acra_devices.specs.Draws.{drawn}
use Rattle.sql_tree.specs.declared.condition.Operand.{Operand}
use Rattle.sql_tree.specs.declared.condition.Operand.TheVariants as operand
use Rattle.sql_tree.specs.declared.statement.Statement.{Statement}
use Rattle.sql_tree.specs.declared.statement.Statement.TheVariants as statement
use Rattle.table_machine.specs.declared.cell.Cell.TheVariants as cell
use Rattle.table_machine.specs.Tables.{Table}
use Rattle.session_model.specs.Notes.{notes_with}
use Rattle.session_model.specs.Served.{is_served}
use Rattle.session_model.specs.Meanings.{string_limit, is_short_value, has_short_strings}
use Rattle.session_model.specs.Plain.{PlainCell, plain}
use Rattle.session_model.specs.Reply.{plain_executed}
use Rattle.session_model.specs.Rewritten.{written_values, written}
use Rattle.session_model.specs.Standing.{IsMeant, AreMeant}
use Rattle.session_model.proofs.Parts.{Served, Fits, tree_of, by_parts}
use Rattle.session_model.proofs.Executed.{select_executed, insert_executed}
use Rattle.session_model.proofs.Carried.{number_plain}
use Rattle.acra_block.specs.Keys.{Key}
use Rattle.lab_session.specs.Cells.{sealed_cell, IsStored}
use Rattle.lab_session.specs.Runs.{cell_for}
use Rattle.lab_session.proofs.Drawing.{drawn_length}
use Rattle.lab_session.proofs.Opened.{sealed_length}

-- ---- the string that a statement writes is within its limit

short_text : (text : List ℕ) → ((nat_le (length text) string_limit && true) && true) ≡ true → length text ≤ string_limit
short_text text h = leb-true (length text) string_limit (first_so (nat_le (length text) string_limit) true (first_so (nat_le (length text) string_limit && true) true h))

short_values : (row : List Operand) (plain : List ℕ) → list_all is_short_value row ≡ true → written_values row ≡ Some plain → length plain ≤ string_limit
short_values (a ∷ operand.Text text ∷ []) plain h e =
    let short = (and_parts (nat_le (length text) string_limit) true (and_parts (is_short_value a) (nat_le (length text) string_limit && true) h).1).0 in
    let same : text ≡ plain = cc in
    subst (λ (p : List ℕ). length p ≤ string_limit) same (leb-true (length text) string_limit short)
short_values row plain h e = absurd cc

pub short_written : (tree : Statement) (plain : List ℕ) → has_short_strings tree ≡ true → written tree ≡ Some plain → length plain ≤ string_limit
short_written (statement.Insert table columns (row ∷ [])) plain h e = short_values row plain (first_so (list_all is_short_value row) true h) e
short_written tree plain h e = absurd cc

-- ---- a cell that is made for it

stored_cell : (keys : Key) (g : ChaCha) (text : List ℕ) → length text ≤ string_limit → IsBytes (sealed_cell keys (drawn 56 g).0 text) → IsStored keys keys.owner text (sealed_cell keys (drawn 56 g).0 text)
stored_cell keys g text short bytes = record { version = 2; first = omega arith; last = omega arith; drawn = (drawn 56 g).0; full = drawn_length g; owned = refl; short = short; made = refl; bytes = bytes }

meant_more : (keys : Key) (rows : List (List PlainCell)) (row : List PlainCell) → AllByRecursion (IsMeant (IsStored keys)) rows → IsMeant (IsStored keys) row → AllByRecursion (IsMeant (IsStored keys)) (rows ++ row ∷ [])
meant_more keys [] row h m = (m, tt)
meant_more keys (r ∷ rows) row h m = (h.0, meant_more keys rows row h.1 m)

module _ (keys : Key) (g : ChaCha) where
  abbrev MeantAfter : Statement → Type 0
  MeantAfter tree = (rows : List (List PlainCell)) → has_short_strings tree ≡ true → IsBytes (cell_for keys g (written tree)) → AllByRecursion (IsMeant (IsStored keys)) rows
      → AreMeant (IsStored keys) (plain_executed keys.owner (cell_for keys g (written tree)) tree (notes_with rows))

  parts_meant : (v : Served) → Fits v → MeantAfter (tree_of v)
  parts_meant (Served.Selects chosen) fits rows h bytes m = record { rows = rows; are = select_executed (plain []) chosen rows; each = m }
  parts_meant (Served.Inserts listed n text) fits rows h bytes m =
      let made = sealed_cell keys (drawn 56 g).0 text in
      let given = PlainCell.Protected keys.owner text made ∷ [] in
      let row = PlainCell.Public (cell.Int (pos n)) ∷ PlainCell.Protected keys.owner text made ∷ [] in
      record {
        rows = rows ++ row ∷ [];
        are = insert_executed (plain given) listed n (operand.Parameter 1) (PlainCell.Public (cell.Int (pos n))) (PlainCell.Protected keys.owner text made) rows (record { number = number_plain given n fits; other = refl });
        each = meant_more keys rows row m (stored_cell keys g text (short_text text h) bytes);
      }

  pub meant_after : (tree : Statement) (tables : List (Table PlainCell)) → is_served tree ≡ true → has_short_strings tree ≡ true → IsBytes (cell_for keys g (written tree)) → AreMeant (IsStored keys) tables
      → AreMeant (IsStored keys) (plain_executed keys.owner (cell_for keys g (written tree)) tree tables)
  meant_after tree tables is h bytes m =
      subst (λ (ts : List (Table PlainCell)). AreMeant (IsStored keys) (plain_executed keys.owner (cell_for keys g (written tree)) tree ts)) (sym m.are) (by_parts MeantAfter parts_meant tree is m.rows h bytes m.each)

  -- ---- the length of a cell

  abbrev CellLength : Statement → Type 0
  CellLength tree = has_short_strings tree ≡ true → length (cell_for keys g (written tree)) ≤ 112 + string_limit

  parts_cell_length : (v : Served) → Fits v → CellLength (tree_of v)
  parts_cell_length (Served.Selects chosen) fits h = omega arith
  parts_cell_length (Served.Inserts listed n text) fits h =
      omega (arith, sealed_length keys (drawn 56 g).0 text (sealed_cell keys (drawn 56 g).0 text) (drawn_length g) refl, short_text text h)

  pub cell_length : (tree : Statement) → is_served tree ≡ true → has_short_strings tree ≡ true → length (cell_for keys g (written tree)) ≤ 112 + string_limit
  cell_length = by_parts CellLength parts_cell_length
