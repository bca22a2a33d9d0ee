-- The errors by which a session itself refuses a text. Nothing of it is sent to the backend.
use Rattle.std.specs.Prelude.{ℕ, List, ◌++◌, codes}
use Rattle.std.specs.Fmt.{decimal}
use Rattle.pg_wire.specs.declared.back.Back.{Back}
use Rattle.machine_replies.specs.Replies.{error_of}
use Rattle.session_model.specs.declared.refusal.Refusal.{Refusal}
use Rattle.session_model.specs.declared.refusal.Refusal.TheVariants as why

-- feature_not_supported, syntax_error, program_limit_exceeded
abbrev pub refusal_code : Refusal → List ℕ
refusal_code why.TooLong = codes "54000"
refusal_code why.NotServed = codes "0A000"
refusal_code (why.Misspelled place) = codes "42601"
refusal_code why.TooDeep = codes "54000"

-- who refuses and why; the place is in decimal
abbrev pub refusal_text : Refusal → List ℕ
refusal_text why.TooLong = codes "AcraServer: query text too long"
refusal_text why.NotServed = codes "AcraServer: statement not in the profile"
refusal_text (why.Misspelled place) = codes "AcraServer: not in the profile at byte " ++ decimal place
refusal_text why.TooDeep = codes "AcraServer: nesting too deep"

abbrev pub refusal_message : Refusal → Back
refusal_message r = error_of (refusal_code r) (refusal_text r)
