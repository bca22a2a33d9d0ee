-- Readers of tokens from the left. What is refused is told by what is left at the first token that does not fit. A reader takes a
-- number that bounds how deep and how far it goes: as many as there are tokens is always enough.
use Rattle.std.specs.Prelude.{ℕ, zero, suc, Bool, true, false, List, [], ◌∷◌, Option, Some, None, Result, Ok, Err, if◌then◌else◌}
use Rattle.std.proofs.Common.{◌⊎◌, inl, inr}
use Rattle.sql_tokens.specs.declared.token.Token.{Token}

abbrev pub Read : Type 0 → Type 0
Read A = Result (A × List Token) (List Token)

abbrev pub Reader : Type 0 → Type 0
Reader A = ℕ → List Token → Read A

abbrev pub after : {A B : Type 0} → (A → List Token → Read B) → Read A → Read B
after f (Ok x) = f x.0 x.1
after f (Err r) = Err r

abbrev pub begins : (Token → Bool) → List Token → Bool
begins test [] = false
begins test (t ∷ ts) = test t

-- one token, if it is what is looked for
abbrev pub found : {A : Type 0} → List Token → List Token → Option A → Read A
found whole rest None = Err whole
found whole rest (Some a) = Ok (a, rest)

abbrev pub one : {A : Type 0} → (Token → Option A) → Reader A
one look n [] = Err []
one look n (t ∷ ts) = found (t ∷ ts) ts (look t)

-- one part and then another
abbrev pub both : {A B : Type 0} → Reader A → Reader B → Reader (A × B)
both p q n ts = after (λ a r. after (λ b s. Ok ((a, b), s)) (q n r)) (p n ts)

-- by what the first token is
abbrev pub either : {A B : Type 0} → (Token → Bool) → Reader A → Reader B → Reader (A ⊎ B)
either test p q n ts = if begins test ts then after (λ a r. Ok (inl a, r)) (p n ts) else after (λ b r. Ok (inr b, r)) (q n ts)

-- a part that may be left out
abbrev pub optionally : {A : Type 0} → (Token → Bool) → Reader A → Reader (Option A)
optionally test p n ts = if begins test ts then after (λ a r. Ok (Some a, r)) (p n ts) else Ok (None, ts)

-- parts while the first token is one that begins a part
abbrev pub repeated : {A : Type 0} → (Token → Bool) → Reader A → ℕ → Reader (List A)
repeated test p zero n ts = if begins test ts then Err ts else Ok ([], ts)
repeated test p (suc k) n ts = if begins test ts then after (λ a r. after (λ more s. Ok (a ∷ more, s)) (repeated test p k n r)) (p n ts) else Ok ([], ts)

abbrev pub many : {A : Type 0} → (Token → Bool) → Reader A → Reader (List A)
many test p n ts = repeated test p n n ts

-- what is read, seen as something else
abbrev pub seen_as : {A B : Type 0} → (A → B) → Reader A → Reader B
seen_as f p n ts = after (λ a r. Ok (f a, r)) (p n ts)

-- a part and more of them, each behind a token
abbrev pub parted : {A : Type 0} → (Token → Bool) → Reader (Unit {0}) → Reader A → Reader (A × List (Unit {0} × A))
parted test by p = both p (many test (both by p))

-- what is read once more, with one less to go
abbrev pub before : {A : Type 0} → Reader A → Reader A
before p zero ts = Err ts
before p (suc n) ts = p n ts
