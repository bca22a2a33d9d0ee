use Rattle.std.proofs.Common.{◌≡◌, Some, sym, subst}
use Rattle.token_rule.specs.Entries.{entry_of}
use Rattle.token_map.proofs.Added.{entry_added}
use Rattle.token_store.specs.Stores.{Store}
use Rattle.token_store.proofs.Staying.{made_standing}
use Rattle.token_store.proofs.laws.made_is_told.Goals as goal

pub returns-clause-entry : goal.returns-clause-entry
returns-clause-entry c = λ s t w token m.
    subst (λ (u : Store). entry_of u.entries w.kind token ≡ Some (record { want = w; token = token })) (sym m.after) (entry_added s.entries (record { want = w; token = token }) m.next.free)

pub returns-clause-standing : goal.returns-clause-standing
returns-clause-standing c = λ s t w token m consistent none. made_standing s t w token m consistent none
