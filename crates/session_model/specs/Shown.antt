-- What a client is shown: a protected column is described as text, its cells are opened.
use Rattle.std.specs.Prelude.{ℕ, ◌≡◌, negsuc, nat_eq, Bool, if◌then◌else◌, List, [], ◌∷◌, map, Option, Some, None}
use Rattle.std.specs.Cmp.Lexicographic.{pointwise}
use Rattle.acra_base.specs.declared.kind.ValueKind.TheVariants as kind
use Rattle.pg_wire.specs.declared.back.Field.{Field}
use Rattle.pg_wire.specs.declared.back.Back.{Back}
use Rattle.pg_wire.specs.declared.back.Back.TheVariants as backs
use Rattle.table_machine.specs.declared.table.OutColumn.{OutColumn}
use Rattle.table_machine.specs.declared.table.Outcome.{Outcome}
use Rattle.table_machine.specs.declared.table.Outcome.TheVariants as outcome
use Rattle.table_machine.specs.Stored.{spelled}
use Rattle.table_machine.specs.Tables.{Answer}
use Rattle.session_model.specs.Plain.{PlainCell}
use Rattle.session_model.specs.Rewritten.{stored_text}

-- a change of the items at the protected places
abbrev pub where_protected : {A : Type 0} → (A → A) → List Bool → List A → List A
where_protected change [] items = items
where_protected change (p ∷ ps) [] = []
where_protected change (p ∷ ps) (item ∷ items) = (if p then change item else item) ∷ where_protected change ps items

-- ---- an answer of the plaintext tables

-- the owner is shown the plaintext, another one the stored bytes
abbrev pub shown : List ℕ → OutColumn → PlainCell → Option (List ℕ)
shown client column (PlainCell.Public c) = spelled column.kind c
shown client column (PlainCell.Protected owner plain kept) = Some (if pointwise nat_eq client owner then plain else stored_text kept)

abbrev pub shown_row : List ℕ → List OutColumn → List PlainCell → List (Option (List ℕ))
shown_row client [] cells = []
shown_row client (column ∷ columns) [] = []
shown_row client (column ∷ columns) (c ∷ cells) = shown client column c ∷ shown_row client columns cells

abbrev pub text_column : OutColumn → OutColumn
text_column column = record column { kind = kind.Str }

-- what a client is told, where these columns are protected
abbrev pub told_to : List ℕ → List Bool → Answer PlainCell → Outcome
told_to client protected (Answer.Rows columns rows) = outcome.Rows (where_protected text_column protected columns) (map (shown_row client columns) rows)
told_to client protected (Answer.Count n) = outcome.Count n
told_to client protected (Answer.Fault f) = outcome.Fault f

-- ---- a message of the backend

-- described as text
abbrev pub as_text : Field → Field
as_text f = record f { kind = 25; size = negsuc 0 }

abbrev pub described : List Bool → List Field → List Field
described ps fields = where_protected as_text ps fields

-- what opens is shown opened, another cell as it is
module _ (opened : List ℕ → Option (List ℕ)) where
  abbrev pub opened_or : List ℕ → Option (List ℕ) → List ℕ
  opened_or text None = text
  opened_or text (Some plain) = plain

  abbrev pub shown_cell : Option (List ℕ) → Option (List ℕ)
  shown_cell None = None
  shown_cell (Some text) = Some (opened_or text (opened text))

  abbrev pub shown_cells : List Bool → List (Option (List ℕ)) → List (Option (List ℕ))
  shown_cells ps cells = where_protected shown_cell ps cells

  abbrev pub shown_message : List Bool → Back → Back
  shown_message ps (backs.Row fields) = backs.Row (described ps fields)
  shown_message ps (backs.Cells cells) = backs.Cells (shown_cells ps cells)
  shown_message ps message = message

-- the client's own cell, whose stored bytes open to its plaintext
pub record Opens (client : List ℕ) (opened : List ℕ → Option (List ℕ)) (owner plain stored : List ℕ) : Type 0 where
  pub owned : owner ≡ client
  pub opens : opened (stored_text stored) ≡ Some plain
