use Rattle.keystore.proofs.Keeping.{kept_settled}
use Rattle.keystore.proofs.ring.Ring.settle.Goals as goal

pub invariant_of-self : goal.invariant_of-self
invariant_of-self c = rw c.settle.ensures.tickets (kept_settled _ c.args.ticket c.self.invariant)
