use Rattle.keystore.specs.Rings.{RingState, without}
use Rattle.keystore.proofs.Keeping.{kept_retired}
use Rattle.keystore.proofs.Steps.{change_leaves, change_nobody, set_changed}
use Rattle.keystore.proofs.ring.Ring.remove.Goals as goal

pub invariant_of-self : goal.invariant_of-self
invariant_of-self c =
    let there = rw c.deref.ensures.value at c.in-Ok.ensures in
    let change = set_changed _ _ c.self.view_is c.args.who.now _ c.index_mut-client.result.now there c.index_mut-client.ensures.value (without c.args.id) _ c.remove.ensures in
    rw change (kept_retired _ c.args.who.now c.args.id c.self.invariant)

pub returns-in-Ok : goal.returns-in-Ok
returns-in-Ok c =
    change_leaves _ _ c.self.view_is c.args.who.now (λ (s : RingState). without c.args.id) _ c.index_mut-client.result.now _ (rw c.deref.ensures.value at c.in-Ok.ensures) c.index_mut-client.ensures.value c.remove.ensures

pub returns-in_default : goal.returns-in_default
returns-in_default c = change_nobody _ _ c.self.view_is c.args.who.now (λ (s : RingState). without c.args.id) _ (rw c.deref.ensures.value at c.in_default.ensures)
