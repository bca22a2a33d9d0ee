use Rattle.std.proofs.Common.{◌<◌, ℕ, None}
use Rattle.json_rules.specs.Found.{FoundIn}
use Rattle.json_rules.proofs.tested.first_place.Given as goal

abbrev pub invariant-each : goal.invariant-each
invariant-each g l = (k : ℕ) → k < l.part → FoundIn (g.S.Tested.broken l.settings l.rule) k None
