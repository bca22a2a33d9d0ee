-- The search for the first place, over any test of places.
use Rattle.std.proofs.Common.{◌≡◌, ◌<◌, ◌≤◌, inl, inr, ℕ, ◌+◌, Bool, true, false, refl, ap, ◌∙◌, arith, Some, None}
use Rattle.std.proofs.lemmas.Bool.{cases_lt}
use Rattle.json_rules.specs.declared.place.Place.{Place}
use Rattle.json_rules.specs.declared.place.Place.TheVariants.{Text, Entry, Part}
use Rattle.json_rules.specs.Places.{IsFirst, IsBefore}
use Rattle.json_rules.specs.Found.{FirstEntry, FoundIn}

-- past the entries nothing is broken
pub no_more : (test : ℕ → Bool) (n : ℕ) → ((i : ℕ) → i < n → test i ≡ false) → ((i : ℕ) → n ≤ i → test i ≡ false) → (i : ℕ) → test i ≡ false
no_more test n below past i = elim (cases_lt i n) [ inl low ↦ below i low | inr high ↦ past i (omega arith) ]

module _ (broken : Place → Bool) (i : ℕ) where
  pub found_entry : (j : ℕ) → FirstEntry broken i (Some j) → FoundIn broken i (Some (Entry i j))
  found_entry j h = (refl, h.0, h.1)

  pub found_part : FirstEntry broken i None → broken (Part i) ≡ true → FoundIn broken i (Some (Part i))
  found_part none h = (refl, h, none)

  pub found_none : FirstEntry broken i None → broken (Part i) ≡ false → FoundIn broken i None
  found_none none h = (none, h)

-- from the parts before one, and what is found in it
module _ (broken : Place → Bool) (i : ℕ) (text : broken Text ≡ false) (below : (k : ℕ) → k < i → FoundIn broken k None) where
  before_entry : (j : ℕ) → ((k : ℕ) → k < j → broken (Entry i k) ≡ false) → (q : Place) → IsBefore q (Entry i j) → broken q ≡ false
  before_entry j low Text h = text
  before_entry j low (Entry t k) (inl less) = (below t less).0 k
  before_entry j low (Entry t k) (inr same) = ap (λ n. broken (Entry n k)) same.0 ∙ low k same.1
  before_entry j low (Part t) h = (below t h).1

  before_part : ((k : ℕ) → broken (Entry i k) ≡ false) → (q : Place) → IsBefore q (Part i) → broken q ≡ false
  before_part low Text h = text
  before_part low (Entry t k) h = elim (cases_lt t i) [
    | inl less ↦ (below t less).0 k
    | inr more ↦ let same : t ≡ i = omega arith in ap (λ n. broken (Entry n k)) same ∙ low k
  ]
  before_part low (Part t) h = (below t h).1

  pub is_first : (r : Place) → FoundIn broken i (Some r) → IsFirst broken r
  is_first Text h = absurd h
  is_first (Entry s j) h = rw h.0 (record {
    holds = rw h.0 at h.1;
    first = before_entry j (rw h.0 at h.2);
  })
  is_first (Part s) h = rw h.0 (record {
    holds = rw h.0 at h.1;
    first = before_part (rw h.0 at h.2);
  })

-- after the last part nothing is broken
pub is_nowhere : (broken : Place → Bool) (n : ℕ) → broken Text ≡ false → ((k : ℕ) → k < n → FoundIn broken k None)
    → ((k : ℕ) → n ≤ k → broken (Part k) ≡ false) → ((k j : ℕ) → n ≤ k → broken (Entry k j) ≡ false) → (q : Place) → broken q ≡ false
is_nowhere broken n text below no_part no_entries Text = text
is_nowhere broken n text below no_part no_entries (Entry t k) = elim (cases_lt t n) [ inl less ↦ (below t less).0 k | inr more ↦ no_entries t k (omega arith) ]
is_nowhere broken n text below no_part no_entries (Part t) = elim (cases_lt t n) [ inl less ↦ (below t less).1 | inr more ↦ no_part t (omega arith) ]

-- one rule more
pub one_more : (broken : ℕ → Place → Bool) (from n : ℕ) → ((r : ℕ) (q : Place) → from ≤ r → r < n → broken r q ≡ false) → ((q : Place) → broken n q ≡ false)
    → (r : ℕ) (q : Place) → from ≤ r → r < n + 1 → broken r q ≡ false
one_more broken from n below here r q low high = elim (cases_lt r n) [
  | inl less ↦ below r q low less
  | inr more ↦ let same : r ≡ n = omega arith in ap (λ m. broken m q) same ∙ here q
]
