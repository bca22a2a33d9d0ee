-- There is one first free number, and room for it.
use Rattle.std.proofs.Common.{◌≡◌, ℕ, ◌+◌, ◌%◌, ◌^◌, ◌<◌, ◌≤◌, ◌⊎◌, true, false, List, [], ◌∷◌, ◌++◌, refl, sym, ap, ◌∙◌, arith, inl, inr}
use Rattle.std.proofs.lemmas.Bool.{cases_lt}
use Rattle.acra_base.specs.declared.kind.ValueKind.{ValueKind}
use Rattle.acra_base.specs.declared.kind.ValueKind.TheVariants as kinds
use Rattle.token_rule.specs.Rule.{number_count}
use Rattle.token_rule.specs.Entries.{Entry, is_taken, IsFirstFree}

not_before : (entries : List Entry) (kind : ValueKind) (start a b : ℕ) (p : IsFirstFree entries kind start a) (q : IsFirstFree entries kind start b) → p.steps < q.steps → a ≡ b
not_before entries kind start a b p q less =
    let taken : is_taken entries kind a ≡ true = ap (is_taken entries kind) p.place ∙ q.taken p.steps less in
    let both : false ≡ true = sym p.free ∙ taken in
    absurd cc

pub one_first_free : (entries : List Entry) (kind : ValueKind) (start a b : ℕ) → IsFirstFree entries kind start a → IsFirstFree entries kind start b → a ≡ b
one_first_free entries kind start a b p q =
    elim (cases_lt p.steps q.steps) [
      | inl less ↦ not_before entries kind start a b p q less
      | inr other ↦ by other (cases_lt q.steps p.steps)
    ]
  where
    by : q.steps ≤ p.steps → q.steps < p.steps ⊎ p.steps ≤ q.steps → a ≡ b
    by other c = elim c [
      | inl less ↦ sym (not_before entries kind start b a q p less)
      | inr more ↦ let same : p.steps ≡ q.steps = omega (arith, other, more) in p.place ∙ ap (λ (n : ℕ). (start + n) % number_count kind) same ∙ sym q.place
    ]

-- the limit of a store is a number of 32 bits
pub has_room : (kind : ValueKind) (n limit : ℕ) → n < limit → limit < 2 ^ 32 → n < number_count kind
has_room kinds.Int32 n limit less fits = omega (arith, less, fits)
has_room kinds.Int64 n limit less fits = omega (arith, less, fits)
has_room kinds.Str n limit less fits = omega (arith, less, fits)
has_room kinds.Bytes n limit less fits = omega (arith, less, fits)

same_front : {A : Type 0} (xs ys : List A) (x y : A) → xs ++ x ∷ [] ≡ ys ++ y ∷ [] → xs ≡ ys
same_front [] [] x y e = refl
same_front [] (b ∷ []) x y e = absurd cc
same_front [] (b ∷ (c ∷ bs)) x y e = absurd cc
same_front (a ∷ []) [] x y e = absurd cc
same_front (a ∷ (c ∷ rest)) [] x y e = absurd cc
same_front (a ∷ left) (b ∷ right) x y e =
    let heads : a ≡ b = cc in
    let tails : left ++ x ∷ [] ≡ right ++ y ∷ [] = cc in
    rw (heads, same_front left right x y tails) refl

pub front_again : {A : Type 0} (xs ys : List A) (x y : A) → xs ++ x ∷ [] ≡ ys ++ y ∷ [] → ys ≡ xs
front_again xs ys x y e = sym (same_front xs ys x y e)
