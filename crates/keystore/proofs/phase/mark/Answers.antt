use Rattle.std.proofs.Common.{[], ◌∷◌, ap, sym}
use Rattle.keystore.specs.declared.phase.OldPhase.{OldPhase}
use Rattle.keystore.specs.declared.phase.OldKey.{OldKey}
use Rattle.keystore.specs.Rings.{is_key, swept_key}
use Rattle.keystore.proofs.Items.{edited_none}
use Rattle.keystore.proofs.Edits.{edit_sets}
use Rattle.keystore.proofs.phase.mark.Goals as goal

pub returns-in-Some : goal.returns-in-Some
returns-in-Some c =
    let k = c.index_mut-key.result.now in
    edit_sets (is_key c.args.id) (λ (j : OldKey). swept_key c.args.ticket j ∷ []) c.args.past.now.items c.in-Some.place k (rw c.deref.ensures.value at c.in-Some.ensures) c.index_mut-key.ensures.value _
    (ap (λ (p : OldPhase). record k { phase = p } ∷ []) (sym c.swept-key.ensures))

pub returns-in_default : goal.returns-in_default
returns-in_default c = sym (edited_none (is_key c.args.id) (λ (k : OldKey). swept_key c.args.ticket k ∷ []) c.args.past.now.items (rw c.deref.ensures.value at c.in_default.ensures))
