use Rattle.keystore.proofs.Keeping.{kept_released}
use Rattle.keystore.proofs.ring.Ring.release.Goals as goal

pub invariant_of-self : goal.invariant_of-self
invariant_of-self c = rw c.release.ensures (kept_released _ c.args.ticket c.self.invariant)
