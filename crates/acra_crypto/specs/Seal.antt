-- What unsealing answers.
use Rattle.std.specs.Prelude.{ℕ, ◌≡◌, List, ◌++◌, Bool, true, false, Option, Some, None}

-- true: what it opens to is appended; false: it opens to nothing, and nothing is appended
abbrev pub Unseals : Option (List ℕ) → Bool → List ℕ → List ℕ → Type 0
Unseals (Some plain) true old new = new ≡ old ++ plain
Unseals None false old new = new ≡ old
Unseals (Some plain) false old new = ⊥
Unseals None true old new = ⊥
