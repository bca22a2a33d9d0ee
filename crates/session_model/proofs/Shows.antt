-- The backend's messages, shown to the owner, are those of the plaintext tables.
use Rattle.std.proofs.Common.{ℕ, ◌≡◌, nat_eq, pos, true, List, [], ◌∷◌, ◌++◌, map, length, codes, Option, Some, if◌then◌else◌, refl, sym, ap, subst, ◌∙◌, append_assoc, suc}
use Rattle.std.specs.List.{AllByRecursion}
use Rattle.std.specs.Fmt.{decimal}
use Rattle.std.specs.Cmp.Lexicographic.{pointwise, bytes_decides}
use Rattle.pg_wire.specs.declared.back.Field.{Field}
use Rattle.pg_wire.specs.declared.back.Back.{Back}
use Rattle.pg_wire.specs.declared.back.Back.TheVariants as backs
use Rattle.sql_tree.specs.declared.condition.Operand.TheVariants as operand
use Rattle.sql_tree.specs.declared.statement.Items.TheVariants as select
use Rattle.sql_tree.specs.declared.statement.Statement.{Statement}
use Rattle.table_machine.specs.declared.cell.Cell.{Cell}
use Rattle.table_machine.specs.declared.cell.Cell.TheVariants as cell
use Rattle.table_machine.specs.declared.table.OutColumn.{OutColumn}
use Rattle.table_machine.specs.Machine.{item_cells}
use Rattle.table_machine.specs.Stored.{stored}
use Rattle.table_machine.specs.Tables.{Table, Answer, answered, out_columns, spelled_row, told}
use Rattle.machine_replies.specs.Replies.{messages_of, field_of, ready}
use Rattle.session_model.specs.Notes.{notes_columns, notes_with}
use Rattle.session_model.specs.Served.{is_served}
use Rattle.session_model.specs.Plain.{PlainCell, plain}
use Rattle.session_model.specs.Reply.{plain_messages}
use Rattle.session_model.specs.Rewritten.{stored_text, rewritten, is_protected, protected_of}
use Rattle.session_model.specs.Standing.{stored_as, stored_rows, stored_tables, IsMeant, AreMeant}
use Rattle.session_model.specs.Shown.{Opens, described, where_protected, text_column, shown_cell, shown_cells, shown_row, shown_message, told_to}
use Rattle.session_model.specs.Laws.{ReadsBack}
use Rattle.session_model.proofs.Parts.{Column, Chosen, Served, Fits, items_of, tree_of, by_parts}
use Rattle.session_model.proofs.Executed.{select_answered, insert_answered}
use Rattle.session_model.proofs.Carried.{number_stored, number_plain, bytes_stored}

-- a text is itself
same_text_true : (xs ys : List ℕ) → xs ≡ ys → pointwise nat_eq xs ys ≡ true
same_text_true xs ys e = (bytes_decides xs ys).1 e

abbrev columns_of : Chosen → List OutColumn
columns_of chosen = out_columns 0 notes_columns (select.Columns (items_of chosen))

fields_shown : (chosen : Chosen) → described (map is_protected (items_of chosen)) (map field_of (columns_of chosen)) ≡ map field_of (where_protected text_column (map is_protected (items_of chosen)) (columns_of chosen))
fields_shown (Chosen.One Column.Id) = refl
fields_shown (Chosen.One Column.Body) = refl
fields_shown (Chosen.Two Column.Id Column.Id) = refl
fields_shown (Chosen.Two Column.Id Column.Body) = refl
fields_shown (Chosen.Two Column.Body Column.Id) = refl
fields_shown (Chosen.Two Column.Body Column.Body) = refl

module _ (client : List ℕ) (opened : List ℕ → Option (List ℕ)) where
  abbrev RowShown : Chosen → List PlainCell → Type 0
  RowShown chosen row = shown_cells opened (map is_protected (items_of chosen)) (spelled_row (columns_of chosen) (item_cells (stored []) notes_columns (items_of chosen) (map stored_as row)))
      ≡ shown_row client (columns_of chosen) (item_cells (plain []) notes_columns (items_of chosen) row)

  chosen_shown : (chosen : Chosen) (c : Cell) (owner text bytes : List ℕ) → opened (stored_text bytes) ≡ Some text → pointwise nat_eq client owner ≡ true → RowShown chosen (PlainCell.Public c ∷ PlainCell.Protected owner text bytes ∷ [])
  chosen_shown (Chosen.One Column.Id) c owner text bytes e o = refl
  chosen_shown (Chosen.One Column.Body) c owner text bytes e o = rw (e, o) refl
  chosen_shown (Chosen.Two Column.Id Column.Id) c owner text bytes e o = refl
  chosen_shown (Chosen.Two Column.Id Column.Body) c owner text bytes e o = rw (e, o) refl
  chosen_shown (Chosen.Two Column.Body Column.Id) c owner text bytes e o = rw (e, o) refl
  chosen_shown (Chosen.Two Column.Body Column.Body) c owner text bytes e o = rw (e, o) refl

  one_row_shown : (chosen : Chosen) (row : List PlainCell) → IsMeant (Opens client opened) row → RowShown chosen row
  one_row_shown chosen (PlainCell.Public c ∷ PlainCell.Protected owner text bytes ∷ []) m = chosen_shown chosen c owner text bytes m.opens (same_text_true client owner (sym m.owned))
  one_row_shown chosen [] m = absurd m
  one_row_shown chosen (PlainCell.Public c ∷ []) m = absurd m
  one_row_shown chosen (PlainCell.Public c ∷ PlainCell.Public d ∷ more) m = absurd m
  one_row_shown chosen (PlainCell.Public c ∷ PlainCell.Protected owner text bytes ∷ d ∷ more) m = absurd m
  one_row_shown chosen (PlainCell.Protected owner text bytes ∷ more) m = absurd m

  -- the rows of a result in text form, as they are stored and as they are shown
  abbrev sent_rows : Chosen → List (List PlainCell) → List (List (Option (List ℕ)))
  sent_rows chosen rows = map (spelled_row (columns_of chosen)) (map (item_cells (stored []) notes_columns (items_of chosen)) (stored_rows rows))

  abbrev plain_rows : Chosen → List (List PlainCell) → List (List (Option (List ℕ)))
  plain_rows chosen rows = map (shown_row client (columns_of chosen)) (map (item_cells (plain []) notes_columns (items_of chosen)) rows)

  abbrev cells_message : List (Option (List ℕ)) → Back
  cells_message row = backs.Cells row

  -- CommandComplete of a SELECT
  abbrev tag_of : ℕ → Back
  tag_of n = backs.Complete (codes "SELECT " ++ decimal n)

  rows_shown : (chosen : Chosen) (rows : List (List PlainCell)) (n : ℕ) → AllByRecursion (IsMeant (Opens client opened)) rows
      → map (shown_message opened (map is_protected (items_of chosen))) (map cells_message (sent_rows chosen rows) ++ tag_of n ∷ ready ∷ []) ≡ map cells_message (plain_rows chosen rows) ++ tag_of n ∷ ready ∷ []
  rows_shown chosen [] n m = refl
  rows_shown chosen (row ∷ rows) n m =
      ap (λ (cs : List (Option (List ℕ))). backs.Cells cs ∷ map (shown_message opened (map is_protected (items_of chosen))) (map cells_message (sent_rows chosen rows) ++ tag_of n ∷ ready ∷ [])) (one_row_shown chosen row m.0)
      ∙ ap (λ (ms : List Back). backs.Cells (shown_row client (columns_of chosen) (item_cells (plain []) notes_columns (items_of chosen) row)) ∷ ms) (rows_shown chosen rows n m.1)

  as_many : (chosen : Chosen) (rows : List (List PlainCell)) → length (sent_rows chosen rows) ≡ length (plain_rows chosen rows)
  as_many chosen [] = refl
  as_many chosen (row ∷ rows) = ap suc (as_many chosen rows)

  select_shown : (chosen : Chosen) (rows : List (List PlainCell)) → AllByRecursion (IsMeant (Opens client opened)) rows
      → map (shown_message opened (map is_protected (items_of chosen))) (messages_of (tree_of (Served.Selects chosen)) (told (Answer.Rows (columns_of chosen) (map (item_cells (stored []) notes_columns (items_of chosen)) (stored_rows rows)))) ++ ready ∷ [])
      ≡ messages_of (tree_of (Served.Selects chosen)) (told_to client (map is_protected (items_of chosen)) (Answer.Rows (columns_of chosen) (map (item_cells (plain []) notes_columns (items_of chosen)) rows))) ++ ready ∷ []
  select_shown chosen rows m =
      let ps = map is_protected (items_of chosen) in
      let show = shown_message opened ps in
      let sent = map cells_message (sent_rows chosen rows) in
      let wanted = map cells_message (plain_rows chosen rows) in
      let tag = tag_of (length (sent_rows chosen rows)) in
      let head = backs.Row (map field_of (where_protected text_column ps (columns_of chosen))) in
      ap (λ (fs : List Field). backs.Row fs ∷ map show ((sent ++ tag ∷ []) ++ ready ∷ [])) (fields_shown chosen)
      ∙ ap (λ (ms : List Back). head ∷ map show ms) (append_assoc sent (tag ∷ []) (ready ∷ []))
      ∙ ap (λ (ms : List Back). head ∷ ms) (rows_shown chosen rows (length (sent_rows chosen rows)) m)
      ∙ ap (λ (n : ℕ). head ∷ (wanted ++ tag_of n ∷ ready ∷ [])) (as_many chosen rows)
      ∙ sym (ap (λ (ms : List Back). head ∷ ms) (append_assoc wanted (tag_of (length (plain_rows chosen rows)) ∷ []) (ready ∷ [])))

  -- ---- the reply that the backend makes of a rewritten statement

  module _ (bytes : List ℕ) (e : ReadsBack bytes) where
    abbrev Replied : Statement → Type 0
    Replied tree = (rows : List (List PlainCell)) → AllByRecursion (IsMeant (Opens client opened)) rows
        → map (shown_message opened (protected_of tree)) (messages_of (rewritten bytes tree) (told (answered (stored []) (rewritten bytes tree) (stored_tables (notes_with rows)))) ++ ready ∷ [])
        ≡ plain_messages client tree (notes_with rows) ++ ready ∷ []

    parts_replied : (v : Served) → Fits v → Replied (tree_of v)
    parts_replied (Served.Selects chosen) h rows m =
        let tree = tree_of (Served.Selects chosen) in
        ap (λ (a : Answer Cell). map (shown_message opened (protected_of tree)) (messages_of tree (told a) ++ ready ∷ [])) (select_answered (stored []) chosen (stored_rows rows))
        ∙ select_shown chosen rows m
        ∙ sym (ap (λ (a : Answer PlainCell). messages_of tree (told_to client (protected_of tree) a) ++ ready ∷ []) (select_answered (plain []) chosen rows))
    parts_replied (Served.Inserts listed n text) h rows m =
        let tree = tree_of (Served.Inserts listed n text) in
        let given = PlainCell.Protected client text [] ∷ [] in
        ap (λ (a : Answer Cell). map (shown_message opened []) (messages_of (rewritten bytes tree) (told a) ++ ready ∷ []))
        (insert_answered (stored []) listed n (operand.Text (stored_text bytes)) (cell.Int (pos n)) (cell.Bytes bytes) (stored_rows rows) (record { number = number_stored n h; other = bytes_stored bytes e }))
        ∙ sym (
        ap (λ (a : Answer PlainCell). messages_of tree (told_to client [] a) ++ ready ∷ [])
        (insert_answered (plain given) listed n (operand.Parameter 1) (PlainCell.Public (cell.Int (pos n))) (PlainCell.Protected client text []) rows (record { number = number_plain given n h; other = refl }))
        )

    pub reply_shown : (tree : Statement) → is_served tree ≡ true → Replied tree
    reply_shown = by_parts Replied parts_replied

pub replies_stand : (client : List ℕ) (opened : List ℕ → Option (List ℕ)) (bytes : List ℕ) (tree : Statement) (tables : List (Table PlainCell)) → is_served tree ≡ true → ReadsBack bytes → AreMeant (Opens client opened) tables
    → map (shown_message opened (protected_of tree)) (messages_of (rewritten bytes tree) (told (answered (stored []) (rewritten bytes tree) (stored_tables tables))) ++ ready ∷ [])
    ≡ plain_messages client tree tables ++ ready ∷ []
replies_stand client opened bytes tree tables is e m =
    subst (λ (ts : List (Table PlainCell)). map (shown_message opened (protected_of tree)) (messages_of (rewritten bytes tree) (told (answered (stored []) (rewritten bytes tree) (stored_tables ts))) ++ ready ∷ []) ≡ plain_messages client tree ts ++ ready ∷ [])
    (sym m.are) (reply_shown client opened bytes e tree is m.rows m.each)
