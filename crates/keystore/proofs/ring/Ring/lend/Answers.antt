use Rattle.keystore.proofs.Keeping.{kept_lease}
use Rattle.keystore.proofs.ring.Ring.lend.Goals as goal

pub invariant_of-self-2 : goal.invariant_of-self-2
invariant_of-self-2 c = rw c.in_ok-push.ensures.items (kept_lease _ c.self.invariant)
