-- What appending leaves.
use Rattle.std.specs.Prelude.{ℕ, Bool, true, Result, Ok, Err}
use Rattle.audit_chain.specs.Points.{Point, point_after}
use Rattle.audit_chain.specs.declared.note.Note.{Note}
use Rattle.audit_chain.specs.declared.refusals.AppendRefusal.{AppendRefusal}
use Rattle.audit_chain.specs.declared.refusals.AppendRefusal.TheVariants as refusals

-- behind the line that says the note; behind a failed keeper nothing more is written
abbrev pub appended : Point → Note → Result ℕ AppendRefusal → Point
appended p note (Ok number) = point_after p note
appended p note (Err refusals.KeeperFault) = record p { ended = true }
appended p note (Err refusals.Closed) = p
appended p note (Err refusals.NoMemory) = p
