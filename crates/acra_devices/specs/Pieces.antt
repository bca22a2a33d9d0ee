-- What a keeper in memory tells of its pieces. One that stops telling stops for good.
use Rattle.std.specs.Prelude.{◌≡◌, ℕ, List, [], ◌∷◌, ◌++◌, Option, None, Some, Result, MatchResult}

-- the told pieces are the same
abbrev pub Stayed : Option (List (List ℕ)) → Option (List (List ℕ)) → Type 0
Stayed old None = Unit {0}
Stayed (Some xs) (Some ys) = ys ≡ xs
Stayed None (Some ys) = ⊥

-- the told pieces have one more, at the end
abbrev pub Added : Option (List (List ℕ)) → Option (List (List ℕ)) → List ℕ → Type 0
Added old None piece = Unit {0}
Added (Some xs) (Some ys) piece = ys ≡ xs ++ piece ∷ []
Added None (Some ys) piece = ⊥

-- the only told piece is this one
abbrev pub Replaced : Option (List (List ℕ)) → Option (List (List ℕ)) → List ℕ → Type 0
Replaced old None whole = Unit {0}
Replaced (Some xs) (Some ys) whole = ys ≡ whole ∷ []
Replaced None (Some ys) whole = ⊥

-- the piece was added at `Ok`, and nothing at a failure
abbrev pub AppendKeeps : {T E : Type 0} → Option (List (List ℕ)) → Option (List (List ℕ)) → Result T E → List ℕ → Type 0
AppendKeeps old new r piece = MatchResult r (λ _. Added old new piece) (λ _. Stayed old new)

-- the piece stands for all that was kept at `Ok`, and nothing changed at a failure
abbrev pub ReplaceKeeps : {T E : Type 0} → Option (List (List ℕ)) → Option (List (List ℕ)) → Result T E → List ℕ → Type 0
ReplaceKeeps old new r whole = MatchResult r (λ _. Replaced old new whole) (λ _. Stayed old new)
