use Rattle.std.proofs.Common.{◌≡◌, drop}
use Rattle.keystore.specs.Rings.{missing}
use Rattle.keystore.proofs.ring.Ring.missing.Given as goal

abbrev pub invariant-owners : goal.invariant-owners
invariant-owners l = missing l.self l.owners ≡ missing l.self (drop l.owner-index l.owners)
