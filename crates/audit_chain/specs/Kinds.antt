-- The kinds of lines.
use Rattle.std.specs.Prelude.{ℕ, List, codes, Bool, true, false}
use Rattle.audit_chain.specs.declared.kind.NoteKind.{NoteKind}
use Rattle.audit_chain.specs.declared.kind.NoteKind.TheVariants as kinds

abbrev pub kind_word : NoteKind → List ℕ
kind_word kinds.Start = codes "start"
kind_word kinds.Deny = codes "deny"
kind_word kinds.Refuse = codes "refuse"
kind_word kinds.Rotate = codes "rotate"
kind_word kinds.Sweep = codes "sweep"
kind_word kinds.Retire = codes "retire"
kind_word kinds.Settle = codes "settle"
kind_word kinds.Close = codes "close"

abbrev pub is_close : NoteKind → Bool
is_close kinds.Start = false
is_close kinds.Deny = false
is_close kinds.Refuse = false
is_close kinds.Rotate = false
is_close kinds.Sweep = false
is_close kinds.Retire = false
is_close kinds.Settle = false
is_close kinds.Close = true
