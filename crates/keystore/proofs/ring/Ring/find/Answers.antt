use Rattle.std.proofs.Common.{◌≡◌, Option, Some, None, ap, sym, subst, ◌∙◌}
use Rattle.keystore.specs.Rings.{ClientKeys, RingState, client_of, is_named}
use Rattle.keystore.proofs.Items.{first_at}
use Rattle.keystore.proofs.Names.{stands_at, absent}
use Rattle.keystore.proofs.ring.Ring.find.Goals as goal

pub returns-in-Ok-clause-value : goal.returns-in-Ok-clause-value
returns-in-Ok-clause-value c =
    let who = c.args.who.now in
    let placed = rw c.deref.ensures.value at c.in-Ok.ensures in
    let found = first_at (is_named who) c.self.inside.clients.items c.in-Ok.place c.index.result.now (stands_at who c.self.inside.clients.items c.in-Ok.place placed) in
    subst (λ (r : RingState). ◌≡◌ {A = Option ClientKeys} (Some c.index.result.now) (client_of who r.clients)) c.self.view_is (ap Some c.index.ensures ∙ sym found)

pub returns-in-Err-clause-value : goal.returns-in-Err-clause-value
returns-in-Err-clause-value c =
    let who = c.args.who.now in
    let placed = rw c.deref.ensures.value at c.in-Err.ensures in
    subst (λ (r : RingState). ◌≡◌ {A = Option ClientKeys} None (client_of who r.clients)) c.self.view_is (sym (absent who c.self.inside.clients.items _ placed))
