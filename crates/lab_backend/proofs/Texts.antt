-- Texts without a zero byte.
use Rattle.std.proofs.Common.{◌≡◌, ℕ, ◌+◌, ◌<◌, ◌^◌, ◌%◌, Bool, true, false, ◌&&◌, List, [], ◌∷◌, ◌++◌, ltb, refl, arith}
use Rattle.std.proofs.lemmas.List.Elements.{All-append, All-contains, All-cons, All-nil}
use Rattle.std.proofs.lemmas.Bool.{ltb-true}
use Rattle.std.proofs.lemmas.Fmt.{decimal_by_steps}
use Rattle.std.specs.Fmt.{decimal}
use Rattle.std.specs.List.{list_all, All}
use Rattle.pg_wire.specs.Fronts.{IsText}

pub and-both : (a b : Bool) → (a && b) ≡ true → (a ≡ true) × (b ≡ true)
and-both true b h = (refl, h)
and-both false b h = cc

-- no byte is zero
abbrev pub ArePositive : List ℕ → Type 0
ArePositive xs = All (λ x. 0 < x) xs

pub IsText-from_positive : (xs : List ℕ) → ArePositive xs → IsText xs
IsText-from_positive xs h has = let wrong : 0 < 0 = All-contains (λ x. 0 < x) xs 0 h has in absurd (omega arith)

pub ArePositive-from_test : (xs : List ℕ) → list_all (ltb 0) xs ≡ true → ArePositive xs
ArePositive-from_test [] h = All-nil (λ x. 0 < x)
ArePositive-from_test (x ∷ xs) h =
    let both = and-both (ltb 0 x) (list_all (ltb 0) xs) h in
    All-cons (λ x. 0 < x) x xs (ltb-true 0 x both.0) (ArePositive-from_test xs both.1)

-- a text that is written out
pub IsText-from_test : (xs : List ℕ) → list_all (ltb 0) xs ≡ true → IsText xs
IsText-from_test xs h = IsText-from_positive xs (ArePositive-from_test xs h)

pub ArePositive-decimal : (n : ℕ) → n < 2 ^ 64 → ArePositive (decimal n)
ArePositive-decimal n h =
    decimal_by_steps (λ n ds. ArePositive ds)
    (λ n lt. All-cons (λ x. 0 < x) (48 + n) [] (omega arith) (All-nil (λ x. 0 < x)))
    (λ n ds le prefix. All-append (λ x. 0 < x) ds ((48 + n % 10) ∷ []) prefix (All-cons (λ x. 0 < x) (48 + n % 10) [] (omega arith) (All-nil (λ x. 0 < x))))
    n h

-- a literal and a number behind it
pub IsText-tag : (prefix : List ℕ) (n : ℕ) → list_all (ltb 0) prefix ≡ true → n < 2 ^ 64 → IsText (prefix ++ decimal n)
IsText-tag prefix n h lt = IsText-from_positive (prefix ++ decimal n) (All-append (λ x. 0 < x) prefix (decimal n) (ArePositive-from_test prefix h) (ArePositive-decimal n lt))
