use Rattle.std.proofs.Common.{◌≡◌, ◌<◌, ℕ, false}
use Rattle.json_rules.specs.Past.{at_index}
use Rattle.censor.specs.Verdicts.{entry_matches}
use Rattle.censor.proofs.judging.first_match.Given as goal

abbrev pub invariant-each : goal.invariant-each
invariant-each l = (i : ℕ) → i < l.index → at_index (entry_matches l.statement) l.entries i ≡ false
