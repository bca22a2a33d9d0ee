use Rattle.keystore.specs.Rings.{RingState, marked}
use Rattle.keystore.proofs.Keeping.{kept_marked}
use Rattle.keystore.proofs.Steps.{change_leaves, change_nobody, set_changed}
use Rattle.keystore.proofs.ring.Ring.mark_swept.Goals as goal

pub invariant_of-self : goal.invariant_of-self
invariant_of-self c =
    let there = rw c.deref.ensures.value at c.in-Ok.ensures in
    let change = set_changed _ _ c.self.view_is c.args.who.now _ c.index_mut-client.result.now there c.index_mut-client.ensures.value (marked c.args.id c.self.inside.next_ticket) _ c.mark.ensures in
    rw change (kept_marked _ c.args.who.now c.args.id c.self.invariant)

pub returns-in-Ok : goal.returns-in-Ok
returns-in-Ok c =
    change_leaves _ _ c.self.view_is c.args.who.now (λ (s : RingState). marked c.args.id s.next_ticket) _ c.index_mut-client.result.now _ (rw c.deref.ensures.value at c.in-Ok.ensures) c.index_mut-client.ensures.value c.mark.ensures

pub returns-in_default : goal.returns-in_default
returns-in_default c = change_nobody _ _ c.self.view_is c.args.who.now (λ (s : RingState). marked c.args.id s.next_ticket) _ (rw c.deref.ensures.value at c.in_default.ensures)
