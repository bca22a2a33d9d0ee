use Rattle.std.proofs.Common.{rules, ◌∙◌}
use Rattle.std.proofs.lemmas.Fn.{always_returns_same}
use Rattle.std.specs.Ordering.{nat_cmp}
use Rattle.keystore.specs.declared.phase.OldKey.{OldKey}
use Rattle.keystore.proofs.Ids.{searched_ids}
use Rattle.keystore.proofs.phase.has_key.Goals as goal

pub returns : goal.returns
returns c =
    let facts = c.binary_search_by.ensures in
    c.is_ok.ensures.value ∙ searched_ids c.args.id c.args.past.now c.requires _ facts.bound (facts.position (λ (k : OldKey). nat_cmp k.id c.args.id) (always_returns_same _ _ _ (λ a r g called. search rules)))
