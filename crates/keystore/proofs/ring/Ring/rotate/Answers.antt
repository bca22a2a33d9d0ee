use Rattle.std.proofs.Common.{◌≤◌, ◌<◌, length, inl, inr, arith}
use Rattle.keystore.proofs.Keeping.{kept_rotated}
use Rattle.keystore.specs.Rings.{rotated}
use Rattle.keystore.proofs.Steps.{rotate_nobody, rotate_many, rotate_no_memory, rotate_done, rotate_leaves, rotate_found, set_changed}
use Rattle.keystore.proofs.ring.Ring.rotate.Goals as goal
use Rattle.keystore.proofs.ring.Ring.rotate.Goals.{then-past_keys-via-then-past_keys, then-past_keys-via-else-past_keys+then-id}

pub returns-in_default-clause-answer : goal.returns-in_default-clause-answer
returns-in_default-clause-answer c = rotate_nobody _ _ c.self.view_is c.args.who.now _ (rw c.deref.ensures.value at c.in_default.ensures)

pub returns-then-past_keys-clause-answer : goal.returns-then-past_keys-clause-answer
returns-then-past_keys-clause-answer c =
    let client = c.index_mut-client.result.now in
    rotate_many _ _ c.self.view_is c.args.who.now _ client (rw c.deref.ensures.value at c.in-Ok.ensures) c.index_mut-client.ensures.value (elim c.then-past_keys.branch [
      | then-past_keys-via-then-past_keys w ↦ inl (let many : 255 ≤ length client.past = omega (arith, w.if-past_keys.true, c.past_keys.ensures) in many)
      | then-past_keys-via-else-past_keys+then-id w ↦ inr w.if-id.true
    ])

pub invariant_of-self-in-Ok-rotate : goal.invariant_of-self-in-Ok-rotate
invariant_of-self-in-Ok-rotate c =
    let client = c.index_mut-client.result.now in
    let there = rw c.deref.ensures.value at c.in-Ok.ensures in
    let small : length client.past < 255 = omega (arith, c.if-past_keys.false, c.past_keys.ensures) in
    let found = rotate_found _ _ c.self.view_is c.args.who.now _ client there c.index_mut-client.ensures.value in
    let change = set_changed _ _ c.self.view_is c.args.who.now _ client there c.index_mut-client.ensures.value (rotated c.self.inside.next_id c.args.key c.self.inside.next_ticket) _ c.in-Ok-rotate.ensures.ok in
    rw change (kept_rotated _ c.args.who.now c.args.key client c.self.invariant found small)

pub returns-in-Ok-rotate-clause-answer : goal.returns-in-Ok-rotate-clause-answer
returns-in-Ok-rotate-clause-answer c =
    let client = c.index_mut-client.result.now in
    rotate_done _ _ c.self.view_is c.args.who.now _ client (rw c.deref.ensures.value at c.in-Ok.ensures) c.index_mut-client.ensures.value (omega (arith, c.if-past_keys.false, c.past_keys.ensures)) c.if-id.false

pub returns-in-Ok-rotate-clause-ring : goal.returns-in-Ok-rotate-clause-ring
returns-in-Ok-rotate-clause-ring c =
    let client = c.index_mut-client.result.now in
    rotate_leaves _ _ c.self.view_is c.args.who.now _ client (rw c.deref.ensures.value at c.in-Ok.ensures) c.index_mut-client.ensures.value c.args.key _ c.in-Ok-rotate.ensures.ok

pub returns-in-Err-clause-answer : goal.returns-in-Err-clause-answer
returns-in-Err-clause-answer c =
    let client = c.index_mut-client.result.now in
    rotate_no_memory _ _ c.self.view_is c.args.who.now _ client (rw c.deref.ensures.value at c.in-Ok.ensures) c.index_mut-client.ensures.value (omega (arith, c.if-past_keys.false, c.past_keys.ensures)) c.if-id.false
