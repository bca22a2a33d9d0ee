use Rattle.keystore.proofs.Keeping.{kept_abandoned}
use Rattle.keystore.proofs.ring.Ring.abandon.Goals as goal

pub invariant_of-self : goal.invariant_of-self
invariant_of-self c = rw c.abandon.ensures (kept_abandoned _ c.args.ticket c.self.invariant)
