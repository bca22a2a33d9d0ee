-- The laws by which a session over stored tables is one over plaintext tables.
use Rattle.std.specs.Prelude.{ℕ, ◌≡◌, true, List, [], ◌∷◌, ◌++◌, map, Option}
use Rattle.sql_tree.specs.declared.statement.Statement.{Statement}
use Rattle.plain_values.specs.Values.{plain, reading}
use Rattle.acra_base.specs.declared.kind.ValueKind.TheVariants as kind
use Rattle.table_machine.specs.Tables.{Table, answered, executed, told}
use Rattle.table_machine.specs.Stored.{stored}
use Rattle.machine_replies.specs.Replies.{messages_of, ready}
use Rattle.session_model.specs.declared.meaning.Meaning.TheVariants as meaning
use Rattle.session_model.specs.Meanings.{has_short_strings, Means}
use Rattle.session_model.specs.Served.{is_served, IsServed}
use Rattle.session_model.specs.Notes.{notes_with}
use Rattle.session_model.specs.Plain.{PlainCell}
use Rattle.session_model.specs.Reply.{plain_messages, plain_executed}
use Rattle.session_model.specs.Rewritten.{stored_text, rewritten, protected_of}
use Rattle.session_model.specs.Standing.{stored_tables, AreMeant}
use Rattle.session_model.specs.Shown.{Opens, shown_message}

-- stored bytes whose text form reads back
abbrev pub ReadsBack : List ℕ → Type 0
ReadsBack cell = reading kind.Bytes (stored_text cell) ≡ plain cell

-- what the rewritten statement leaves in the stored tables stands for what the statement leaves in the plaintext tables
abbrev pub TablesStand : Type 0
TablesStand =
    (owner cell : List ℕ) (tree : Statement) (rows : List (List PlainCell)) → is_served tree ≡ true → ReadsBack cell
    → executed (stored []) (rewritten cell tree) (stored_tables (notes_with rows)) ≡ stored_tables (plain_executed owner cell tree (notes_with rows))

-- the backend's reply to the rewritten statement, shown to the owner of all cells, is the reply of the plaintext tables
abbrev pub RepliesStand : Type 0
RepliesStand =
    (client : List ℕ) (opened : List ℕ → Option (List ℕ)) (cell : List ℕ) (tree : Statement) (tables : List (Table PlainCell)) → is_served tree ≡ true → ReadsBack cell → AreMeant (Opens client opened) tables
    → map (shown_message opened (protected_of tree)) (messages_of (rewritten cell tree) (told (answered (stored []) (rewritten cell tree) (stored_tables tables))) ++ ready ∷ [])
    ≡ plain_messages client tree tables ++ ready ∷ []

-- a statement that a text asks is served
abbrev pub ServedIsStatement : Type 0
ServedIsStatement = (text : List ℕ) (tree : Statement) → Means text (meaning.Serves tree) → IsServed tree × (has_short_strings tree ≡ true)
