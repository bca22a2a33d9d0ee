use Rattle.std.proofs.Common.{◌≡◌, take}
use Rattle.keystore.specs.Rings.{currents_of}
use Rattle.keystore.proofs.ring.Ring.currents.Given as goal

abbrev pub invariant-owners : goal.invariant-owners
invariant-owners l = l.keys ≡ currents_of l.self (take l.owner-index l.owners)
