use Rattle.std.proofs.Common.{◌≡◌, ◌==◌, Option, Some, ap, sym, ◌∙◌}
use Rattle.std.specs.Ordering.{ordering_index}
use Rattle.std.specs.declared.cmp.Ordering.{Ordering}
use Rattle.keystore.specs.Rings.{ClientKeys, name_cmp}
use Rattle.ring_file.specs.Reading.{comes_after, last_of}
use Rattle.ring_file.proofs.Lasts.{last_at}
use Rattle.ring_file.proofs.Names.{less}
use Rattle.ring_file.proofs.clients.comes_after.Goals as goal

pub returns-in-Some : goal.returns-in-Some
returns-in-Some c =
    let name = c.args.name.now in
    let same : ◌≡◌ {A = Option ClientKeys} (Some c.in-Some.last.now) (last_of c.args.clients.now) = c.in-Some.ensures.value ∙ sym (last_at c.args.clients.now) in
    c.eq.ensures ∙ (ap (λ (o : Ordering). ordering_index o == 0) c.compare.ensures ∙ (less (name_cmp c.in-Some.last.now.name name) ∙ ap (λ (o : Option ClientKeys). comes_after o name) same))
