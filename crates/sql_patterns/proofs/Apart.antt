-- Statements with different fingerprints are different.
use Rattle.std.proofs.Common.{◌≡◌, ℕ, Bool, true, false, refl, sym, ap, ◌∙◌}
use Rattle.sql_tree.specs.declared.statement.Statement.{Statement}
use Rattle.sql_patterns.specs.Matching.{statement_matches}
use Rattle.sql_patterns.specs.Fingerprints.{fingerprint}
use Rattle.sql_patterns.proofs.Equal.{same_statements}

pub apart : (a b : Statement) (p q : ℕ) → p ≡ fingerprint a → q ≡ fingerprint b → (p ≡ q → ⊥) → false ≡ statement_matches false a b
apart a b p q is also other = by (statement_matches false a b) refl
  where
    by : (m : Bool) → statement_matches false a b ≡ m → false ≡ m
    by true e = absurd (other (is ∙ ap fingerprint (same_statements a b e) ∙ sym also))
    by false e = refl
