use Rattle.std.proofs.Common.{◌<◌, ℕ}
use Rattle.std.specs.List.{HoldsAt}
use Rattle.censor.specs.Verdicts.{DecidesNot}
use Rattle.censor.proofs.censor.Censor.judge.Given as goal

abbrev pub invariant-each : goal.invariant-each
invariant-each l = (i : ℕ) → i < l.index → HoldsAt (DecidesNot l.statement) l.handlers i
