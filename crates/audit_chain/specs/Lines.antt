-- The lines of the audit log, each without its newline: number, kind, client, detail and mac, with single spaces between them.
use Rattle.std.specs.Prelude.{ℕ, ◌≡◌, ◌==◌, List, [], ◌∷◌, ◌++◌, codes, Bool, true, not, Option, None, Some, IfSome}
use Rattle.std.specs.List.{before_first, after_first, before_last}
use Rattle.std.specs.Cmp.Lexicographic.{pointwise}
use Rattle.std.specs.Fmt.{decimal}
use Rattle.std.specs.Prelude.{nat_eq}
use Rattle.hex.specs.Hex.{encode_lower}
use Rattle.acra_base.specs.Client.{IsClientId}
use Rattle.audit_chain.specs.Details.{is_detail}
use Rattle.audit_chain.specs.Kinds.{kind_word}
use Rattle.audit_chain.specs.declared.note.Note.{Note}

-- a dash where there is no client
abbrev pub client_word : Option (List ℕ) → List ℕ
client_word None = codes "-"
client_word (Some client) = client

-- the fields of a note are of their forms
pub record IsNote (note : Note) : Type 0 where
  pub client : IfSome note.client IsClientId
  pub detail : is_detail note.detail ≡ true

-- number, kind, client and detail
abbrev pub note_text : ℕ → Note → List ℕ
note_text number note = decimal number ++ 32 ∷ kind_word note.kind ++ 32 ∷ client_word note.client ++ 32 ∷ note.detail

-- a text, and the lower-case digits of its mac
abbrev pub line_of : List ℕ → List ℕ → List ℕ
line_of text mac = text ++ 32 ∷ encode_lower mac

abbrev pub is_space : ℕ → Bool
is_space b = b == 32

abbrev pub is_within : ℕ → Bool
is_within b = not (is_space b)

-- what the mac of a line covers of it: the text before its last space
abbrev pub covered : List ℕ → List ℕ
covered line = before_last is_space line

-- the word between the first two spaces of a line is `close`
abbrev pub closes : List ℕ → Bool
closes line = pointwise nat_eq (before_first is_space (after_first is_space line)) (codes "close")
