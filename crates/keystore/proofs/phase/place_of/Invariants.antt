use Rattle.std.proofs.Common.{◌≡◌, ℕ, ◌<◌, false, get_or}
use Rattle.keystore.specs.declared.phase.OldKey.{OldKey}
use Rattle.keystore.specs.Rings.{is_key}
use Rattle.keystore.proofs.phase.place_of.Given as goal

abbrev pub invariant-keys : goal.invariant-keys
invariant-keys l = (k : ℕ) (d : OldKey) → k < l.place → is_key l.id (get_or l.past k d) ≡ false
