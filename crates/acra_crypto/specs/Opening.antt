-- What unsealing appends, where it is known what is opened.
use Rattle.std.proofs.Common.{ℕ, ◌≡◌, List, [], ◌++◌, Bool, true, false, Option, Some, None, ◌∙◌, ap}
use Rattle.acra_crypto.specs.Seal.{Unseals}

pub unseals_value : (opened : Option (List ℕ)) (found : Bool) (old new plain : List ℕ) → Unseals opened found old new → opened ≡ Some plain → (found ≡ true) × (new ≡ old ++ plain)
unseals_value (Some p) true old new plain u e = (cc, u ∙ ap (λ (xs : List ℕ). old ++ xs) cc)
unseals_value None false old new plain u e = absurd cc
unseals_value (Some p) false old new plain u e = absurd u
unseals_value None true old new plain u e = absurd u

pub unsealed_value : (opened : Option (List ℕ)) (found : Bool) (old new plain : List ℕ) → found ≡ true → Unseals opened found old new → old ≡ [] → opened ≡ Some plain → new ≡ plain
unsealed_value opened found old new plain t u e o = (unseals_value opened found old new plain u o).1 ∙ ap (λ (xs : List ℕ). xs ++ plain) e
