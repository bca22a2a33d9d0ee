-- The order of places, and that one rule at one place is the least.
use Rattle.std.proofs.Common.{◌≡◌, ◌⊎◌, inl, inr, ℕ, Bool, true, false, refl, sym, ap, ◌∙◌, arith, true≢false}
use Rattle.std.proofs.lemmas.Bool.{cases_lt}
use Rattle.json_rules.specs.Places.{IsBefore, IsLeast, IsUnbroken}
use Rattle.json_rules.specs.Order.{IsLess, IsOfPart}
use Rattle.json_rules.specs.declared.place.Place.{Place}
use Rattle.json_rules.specs.declared.place.Place.TheVariants.{Text, Entry, Part}

-- ---- the order of places is that of their numbers

pub less_if_before : (p q : Place) → IsOfPart p → IsOfPart q → IsBefore p q → IsLess p q
less_if_before Text q a b h = absurd a
less_if_before (Entry i j) Text a b h = absurd b
less_if_before (Part i) Text a b h = absurd b
less_if_before (Entry i j) (Entry k l) a b h = h
less_if_before (Entry i j) (Part k) a b h = elim (cases_lt i k) [ inl less ↦ inl less | inr more ↦ let same : i ≡ k = omega arith in inr (same, a) ]
less_if_before (Part i) (Entry k l) a b h = inl h
less_if_before (Part i) (Part k) a b h = inl h

pub before_if_less : (p q : Place) → IsOfPart p → IsOfPart q → IsLess p q → IsBefore p q
before_if_less Text q a b h = absurd a
before_if_less (Entry i j) Text a b h = absurd b
before_if_less (Part i) Text a b h = absurd b
before_if_less (Entry i j) (Entry k l) a b h = h
before_if_less (Entry i j) (Part k) a b (inl less) = omega arith
before_if_less (Entry i j) (Part k) a b (inr same) = let e = same.0 in omega arith
before_if_less (Part i) (Entry k l) a b (inl less) = less
before_if_less (Part i) (Entry k l) a b (inr same) = let e = same.1 in absurd (omega arith)
before_if_less (Part i) (Part k) a b (inl less) = less
before_if_less (Part i) (Part k) a b (inr same) = let e = same.1 in absurd (omega arith)

pub text_first : (q : Place) → IsOfPart q → IsBefore Text q
text_first Text h = absurd h
text_first (Entry i j) h = tt
text_first (Part i) h = tt

-- ---- one least rule

-- a place is before another, behind it, or the same
abbrev Compared : Place → Place → Type 0
Compared p q = IsBefore p q ⊎ (IsBefore q p ⊎ (p ≡ q))

compared : (p q : Place) → Compared p q
compared Text Text = inr (inr refl)
compared Text (Entry k l) = inl tt
compared Text (Part k) = inl tt
compared (Entry i j) Text = inr (inl tt)
compared (Part i) Text = inr (inl tt)
compared (Entry i j) (Entry k l) = elim (cases_lt i k) [
  | inl less ↦ inl (inl less)
  | inr most ↦ elim (cases_lt k i) [
    | inl more ↦ inr (inl (inl more))
    | inr least ↦ let same : i ≡ k = omega (arith, most, least) in elim (cases_lt j l) [
      | inl before ↦ inl (inr (same, before))
      | inr high ↦ elim (cases_lt l j) [
        | inl behind ↦ inr (inl (inr (sym same, behind)))
        | inr low ↦ let too : j ≡ l = omega (arith, high, low) in inr (inr (ap (λ n. Entry n j) same ∙ ap (Entry k) too))
      ]
    ]
  ]
]
compared (Entry i j) (Part k) = elim (cases_lt k i) [ inl behind ↦ inr (inl behind) | inr before ↦ inl before ]
compared (Part i) (Entry k l) = elim (cases_lt i k) [ inl before ↦ inl before | inr behind ↦ inr (inl behind) ]
compared (Part i) (Part k) = elim (cases_lt i k) [
  | inl before ↦ inl before
  | inr most ↦ elim (cases_lt k i) [ inl behind ↦ inr (inl behind) | inr least ↦ let same : i ≡ k = omega (arith, most, least) in inr (inr (ap Part same)) ]
]

-- what holds doesn't fail
clash : {A : Type 0} (b : Bool) → b ≡ true → b ≡ false → A
clash b h k = absurd (true≢false (sym h ∙ k))

module _ (broken : ℕ → Place → Bool) (a b : ℕ) (p q : Place) (h : IsLeast broken a p) (k : IsLeast broken b q) where
  pub same_rule : a ≡ b
  same_rule = elim (cases_lt a b) [
    | inl low ↦ clash _ h.here.holds (k.least a p low)
    | inr more ↦ elim (cases_lt b a) [
      | inl low ↦ clash _ k.here.holds (h.least b q low)
      | inr less ↦ omega (arith, more, less)
    ]
  ]

  pub same_place : p ≡ q
  same_place = elim (compared p q) [
    | inl before ↦ clash _ h.here.holds (ap (λ r. broken r p) same_rule ∙ k.here.first p before)
    | inr other ↦ elim other [
      | inl behind ↦ clash _ k.here.holds (ap (λ r. broken r q) (sym same_rule) ∙ h.here.first q behind)
      | inr same ↦ same
    ]
  ]

pub not_both : (broken : ℕ → Place → Bool) (rule : ℕ) (place : Place) → IsLeast broken rule place → IsUnbroken broken → ⊥
not_both broken rule place h k = clash _ h.here.holds (k rule place)
