use Rattle.std.proofs.Common.{◌≤◌, ◌<◌, length, sym, ◌∙◌, ap, inl, inr, rules}
use Rattle.std.specs.List.{insert}
use Rattle.keystore.proofs.Keeping.{kept_added}
use Rattle.keystore.specs.Answers.{new_client}
use Rattle.keystore.proofs.Steps.{add_exists, add_many, add_no_memory, add_done, add_leaves}
use Rattle.keystore.proofs.Names.{added_at}
use Rattle.keystore.proofs.ring.Ring.add_client.Goals as goal
use Rattle.keystore.proofs.ring.Ring.add_client.Goals.{then-len-ge-MOST_CLIENTS-via-then-len-ge-MOST_CLIENTS, then-len-ge-MOST_CLIENTS-via-else-len-ge-MOST_CLIENTS+then-self, in-Ok, in-Err-insert}

pub returns-in_default-clause-answer : goal.returns-in_default-clause-answer
returns-in_default-clause-answer c = add_exists _ _ c.self.view_is c.args.who.now _ (rw c.deref.ensures.value at c.in_default.ensures)

pub returns-then-len-ge-MOST_CLIENTS-clause-answer : goal.returns-then-len-ge-MOST_CLIENTS-clause-answer
returns-then-len-ge-MOST_CLIENTS-clause-answer c =
    add_many _ _ c.self.view_is c.args.who.now _ (rw c.deref.ensures.value at c.in-Err.ensures) (elim c.then-len-ge-MOST_CLIENTS.branch [
      | then-len-ge-MOST_CLIENTS-via-then-len-ge-MOST_CLIENTS w ↦ inl (let many : 256 ≤ length c.self.inside.clients.items = search rules in many)
      | then-len-ge-MOST_CLIENTS-via-else-len-ge-MOST_CLIENTS+then-self w ↦ inr w.if-self.true
    ])

pub invariant_of-self : goal.invariant_of-self
invariant_of-self c =
    let fits = rw c.deref.ensures.value at c.in-Err.ensures in
    let small : length c.self.inside.clients.items < 256 = search rules in
    let kept = kept_added _ c.args.who.now c.args.keys c.in-Err.place c.self.invariant fits small in
    let s = Rattle.keystore.specs.contracts.ring.Ring.the_view c.self.inside in
    let made = c.in-Ok.ensures.items ∙ (ap (insert c.self.inside.clients.items c.in-Err.place) c.new-client.ensures ∙ sym (added_at (new_client s c.args.who.now c.args.keys) c.self.inside.clients.items c.in-Err.place fits)) in
    rw made kept

pub returns-clause-answer : goal.returns-clause-answer
returns-clause-answer c =
    let fits = rw c.deref.ensures.value at c.in-Err.ensures in
    let small : length c.self.inside.clients.items < 256 = search rules in
    elim c.match-insert.branch [
      | in-Ok w ↦ rw w.result-is (add_done _ _ c.self.view_is c.args.who.now _ fits small c.if-self.false)
      | in-Err-insert w ↦ rw w.result-is (add_no_memory _ _ c.self.view_is c.args.who.now _ fits small c.if-self.false)
    ]

pub returns-clause-ring : goal.returns-clause-ring
returns-clause-ring c =
    let fits = rw c.deref.ensures.value at c.in-Err.ensures in
    elim c.match-insert.branch [
      | in-Ok w ↦ rw (w.self-is, w.result-is) (add_leaves _ _ c.self.view_is c.args.who.now _ c.args.keys _ fits (w.in-Ok.ensures.items ∙ ap (insert c.self.inside.clients.items c.in-Err.place) c.new-client.ensures))
      | in-Err-insert w ↦ rw (w.self-is, w.result-is) (search rules)
    ]
