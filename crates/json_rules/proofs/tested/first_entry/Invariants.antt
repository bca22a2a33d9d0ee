use Rattle.std.proofs.Common.{◌≡◌, ◌<◌, ℕ, false}
use Rattle.json_rules.specs.declared.place.Place.TheVariants.{Entry}
use Rattle.json_rules.proofs.tested.first_entry.Given as goal

abbrev pub invariant-each : goal.invariant-each
invariant-each g l = (i : ℕ) → i < l.entry → g.S.Tested.broken l.settings l.rule (Entry l.part i) ≡ false
