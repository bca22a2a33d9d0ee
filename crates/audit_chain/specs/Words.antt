-- The words of a line between its number and its mac.
use Rattle.std.specs.Prelude.{◌≡◌}
use Rattle.audit_chain.specs.Kinds.{kind_word}
use Rattle.audit_chain.specs.Lines.{client_word}
use Rattle.audit_chain.specs.declared.note.Note.{Note}
use Rattle.audit_chain.specs.declared.line.Words.{Words}

pub record AreWords (words : Words) (note : Note) : Type 0 where
  pub kind : words.kind.now ≡ kind_word note.kind
  pub client : words.client.now ≡ client_word note.client
  pub detail : words.detail.now ≡ note.detail
