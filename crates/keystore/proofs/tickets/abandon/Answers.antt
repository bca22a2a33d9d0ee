use Rattle.std.proofs.Common.{[], ◌∷◌, true, sym}
use Rattle.keystore.specs.Rings.{is_ticket}
use Rattle.keystore.proofs.Items.{edited_none}
use Rattle.keystore.proofs.Edits.{abandon_sets}
use Rattle.keystore.proofs.tickets.abandon.Goals as goal

pub returns-in-Some : goal.returns-in-Some
returns-in-Some c =
    abandon_sets c.args.number c.args.out.now.items c.in-Some.place c.index_mut.result.now (rw c.deref.ensures.value at c.in-Some.ensures) c.index_mut.ensures.value

pub returns-in_default : goal.returns-in_default
returns-in_default c = sym (edited_none (is_ticket c.args.number) (λ t. record t { abandoned = true } ∷ []) c.args.out.now.items (rw c.deref.ensures.value at c.in_default.ensures))
