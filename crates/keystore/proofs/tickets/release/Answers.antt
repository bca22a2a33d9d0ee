use Rattle.std.proofs.Common.{sym, ◌∙◌}
use Rattle.keystore.specs.Rings.{is_ticket}
use Rattle.keystore.proofs.Items.{edited_none}
use Rattle.keystore.proofs.Edits.{release_drops, release_stays}
use Rattle.keystore.proofs.tickets.release.Goals as goal

pub returns-then-index : goal.returns-then-index
returns-then-index c =
    release_stays c.args.number c.args.out.now.items c.in-Some.place c.index.result.now (rw c.deref.ensures.value at c.in-Some.ensures) c.index.ensures c.if-index.true

pub returns-in_default : goal.returns-in_default
returns-in_default c = sym (edited_none (is_ticket c.args.number) _ c.args.out.now.items (rw c.deref.ensures.value at c.in_default.ensures))

pub returns-else-index : goal.returns-else-index
returns-else-index c =
    c.remove.ensures.items ∙ release_drops c.args.number c.args.out.now.items c.in-Some.place c.index.result.now (rw c.deref.ensures.value at c.in-Some.ensures) c.index.ensures c.if-index.false
