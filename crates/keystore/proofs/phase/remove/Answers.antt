use Rattle.std.proofs.Common.{List, [], sym, refl, ◌∙◌}
use Rattle.keystore.specs.declared.phase.OldKey.{OldKey}
use Rattle.keystore.specs.Rings.{is_key}
use Rattle.keystore.proofs.Items.{edited_none}
use Rattle.keystore.proofs.Edits.{edit_drops}
use Rattle.keystore.proofs.phase.remove.Goals as goal

pub returns-in-Some : goal.returns-in-Some
returns-in-Some c =
    c.remove.ensures.items ∙ edit_drops (is_key c.args.id) (λ (_ : OldKey). let none : List OldKey = [] in none) c.args.past.now.items c.in-Some.place c.remove.result (rw c.deref.ensures.value at c.in-Some.ensures) c.remove.ensures.value refl

pub returns-in_default : goal.returns-in_default
returns-in_default c = sym (edited_none (is_key c.args.id) (λ (_ : OldKey). let none : List OldKey = [] in none) c.args.past.now.items (rw c.deref.ensures.value at c.in_default.ensures))
