use Rattle.std.proofs.Common.{sym, ◌∙◌}
use Rattle.keystore.specs.Rings.{is_ticket}
use Rattle.keystore.proofs.Items.{edited_none}
use Rattle.keystore.proofs.Edits.{settle_drops, settle_stays, told_here}
use Rattle.keystore.proofs.tickets.settle.Goals as goal

pub returns-in_default-clause-tickets : goal.returns-in_default-clause-tickets
returns-in_default-clause-tickets c = sym (edited_none (is_ticket c.args.number) _ c.args.out.now.items (rw c.deref.ensures.value at c.in_default.ensures))

pub returns-then-not-index-clause-told : goal.returns-then-not-index-clause-told
returns-then-not-index-clause-told c =
    sym c.if-not-index.true ∙ told_here c.args.number c.args.out.now.items c.in-Some.place c.index.result.now (rw c.deref.ensures.value at c.in-Some.ensures) c.index.ensures

pub returns-then-not-index-clause-tickets : goal.returns-then-not-index-clause-tickets
returns-then-not-index-clause-tickets c =
    settle_stays c.args.number c.args.out.now.items c.in-Some.place c.index.result.now (rw c.deref.ensures.value at c.in-Some.ensures) c.index.ensures c.if-not-index.true

pub returns-clause-told : goal.returns-clause-told
returns-clause-told c =
    sym c.if-not-index.false ∙ told_here c.args.number c.args.out.now.items c.in-Some.place c.index.result.now (rw c.deref.ensures.value at c.in-Some.ensures) c.index.ensures

pub returns-clause-tickets : goal.returns-clause-tickets
returns-clause-tickets c =
    c.remove.ensures.items ∙ settle_drops c.args.number c.args.out.now.items c.in-Some.place c.index.result.now (rw c.deref.ensures.value at c.in-Some.ensures) c.index.ensures c.if-not-index.false
