-- What rewriting answers, by what becomes of the text.
use Rattle.std.specs.Prelude.{◌≡◌, Result, Ok, Err}
use Rattle.sql_outcomes.specs.declared.refusal.ParseFault.{ParseFault}
use Rattle.sql_outcomes.specs.declared.refusal.ParseFault.TheVariants as fault
use Rattle.sql_outcomes.specs.Outcome.{Outcome}

-- done where the text spells a statement, and else the text's refusal; or want of memory
abbrev pub Answers : {A : Type 0} → Result A ParseFault → Outcome → Type 0
Answers (Ok done) (Ok tree) = Unit {0}
Answers (Ok done) (Err r) = ⊥
Answers (Err (fault.Refused r)) outcome = outcome ≡ Err r
Answers (Err fault.NoMemory) outcome = Unit {0}
