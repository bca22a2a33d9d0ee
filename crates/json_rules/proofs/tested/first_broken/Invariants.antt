use Rattle.std.proofs.Common.{◌≡◌, ◌<◌, ◌≤◌, ℕ, false}
use Rattle.json_rules.specs.declared.place.Place.{Place}
use Rattle.json_rules.proofs.tested.first_broken.Given as goal

abbrev pub invariant-each : goal.invariant-each
invariant-each g l = (r : ℕ) (q : Place) → l.from ≤ r → r < l.rule → g.S.Tested.broken l.settings r q ≡ false
