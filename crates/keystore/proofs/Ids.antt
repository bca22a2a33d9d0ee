-- Old keys in the order of their ids.
use Rattle.std.proofs.Common.{◌≡◌, ℕ, zero, suc, ◌<◌, ◌+◌, ◌≢◌, ◌⊎◌, Bool, true, false, if◌then◌else◌, is_ok, List, [], ◌∷◌, length, get_or, Some, None, is_some, Result, Ok, Err, eqb, refl, ap, sym, ◌∙◌, arith, inl, inr}
use Rattle.std.specs.List.Sorted.{IsSearchInRange, IsBinarySearchResult, IsNonDecreasingBy}
use Rattle.std.specs.Ordering.{nat_cmp, ordering_index, is_lt}
use Rattle.std.specs.Cmp.{nat_cmp_is}
use Rattle.std.specs.declared.cmp.Ordering.{Ordering}
use Rattle.std.specs.declared.cmp.Ordering.TheVariants.{Less, Equal, Greater}
use Rattle.std.proofs.lemmas.Cmp.{nat_cmp_total}
use Rattle.std.proofs.lemmas.List.Elements.{All-from_recursion}
use Rattle.std.proofs.lemmas.List.Sorted.{searchable_from_sorted}
use Rattle.std.proofs.lemmas.Bool.{cases_lt}
use Rattle.std.proofs.lemmas.Bool.Decides.{nat_tests}
use Rattle.keystore.specs.declared.phase.OldKey.{OldKey}
use Rattle.keystore.specs.Lists.{first, AscendsBy}
use Rattle.keystore.specs.Rings.{is_key}
use Rattle.keystore.specs.Kept.{IsOlder, has_old}
use Rattle.keystore.proofs.Items.{none_passes}

ids_at : (ks : List OldKey) → AscendsBy IsOlder ks → (i j : ℕ) (d : OldKey) → i < j → j < length ks → (get_or ks i d).id < (get_or ks j d).id
ids_at [] h i j d lt in_range = absurd (omega arith)
ids_at (k ∷ ks) h i zero d lt in_range = absurd (omega arith)
ids_at (k ∷ ks) h zero (suc j) d lt in_range = All-from_recursion (λ (e : OldKey). k.id < e.id) ks h.0 j d (omega arith)
ids_at (k ∷ ks) h (suc i) (suc j) d lt in_range = ids_at ks h.1 i j d (omega arith) (omega arith)

not_less : (m n : ℕ) → m < n → is_lt (nat_cmp n m) ≡ false
not_less m n lt = rw (← nat_cmp_is n m Greater lt) refl

ids_rise : (id : ℕ) (ks : List OldKey) → AscendsBy IsOlder ks → IsNonDecreasingBy (λ (k : OldKey). ordering_index (nat_cmp k.id id)) ks
ids_rise id ks h = searchable_from_sorted nat_cmp_total (λ (k : OldKey). k.id) ks id (λ k d low lt. not_less (get_or ks k d).id (get_or ks (k + 1) d).id (ids_at ks h k (k + 1) d (omega arith) lt))

-- one of the keys passes
some_passes : (p : OldKey → Bool) (ks : List OldKey) (i : ℕ) → i < length ks → ((d : OldKey) → p (get_or ks i d) ≡ true) → is_some (first p ks) ≡ true
some_passes p [] i lt h = absurd (omega arith)
some_passes p (k ∷ ks) zero lt h = rw (h k) refl
some_passes p (k ∷ ks) (suc i) lt h = by_test (p k) (some_passes p ks i (omega arith) h) where
  by_test : (b : Bool) → is_some (first p ks) ≡ true → is_some (if b then Some k else first p ks) ≡ true
  by_test true rest = refl
  by_test false rest = rest

-- two ids are the same exactly where they compare so
same_id : (m n : ℕ) → m ≡ n → eqb m n ≡ true
same_id m n e = grind (arith, nat_tests)

lesser_id : (m n : ℕ) → m < n → eqb m n ≡ false
lesser_id m n lt = grind (arith, nat_tests)

greater_id : (m n : ℕ) → n < m → eqb m n ≡ false
greater_id m n lt = grind (arith, nat_tests)

unless : {A : Type 0} (o p : Ordering) → o ≡ p → ordering_index o ≢ ordering_index p → A
unless o p e differ = absurd (differ (ap ordering_index e))

cases_id : (m n : ℕ) → (m < n) ⊎ ((m ≡ n) ⊎ (n < m))
cases_id m n = elim (cases_lt m n) [ inl lt ↦ inl lt | inr le ↦ elim (cases_lt n m) [ inl gt ↦ inr (inr gt) | inr ge ↦ inr (inl (omega arith)) ] ]

equal_ids : (m n : ℕ) → nat_cmp m n ≡ Equal → eqb m n ≡ true
equal_ids m n h = elim (cases_id m n) [
  | inl lt ↦ unless Less Equal (nat_cmp_is m n Less lt ∙ h) (λ e. omega (arith, e))
  | inr other ↦ elim other [ inl same ↦ same_id m n same | inr gt ↦ unless Greater Equal (nat_cmp_is m n Greater gt ∙ h) (λ e. omega (arith, e)) ]
]

other_ids : (m n : ℕ) → nat_cmp m n ≡ Less → eqb m n ≡ false
other_ids m n h = elim (cases_id m n) [
  | inl lt ↦ lesser_id m n lt
  | inr other ↦ elim other [ inl same ↦ unless Equal Less (nat_cmp_is m n Equal same ∙ h) (λ e. omega (arith, e)) | inr gt ↦ greater_id m n gt ]
]

greater_ids : (m n : ℕ) → nat_cmp m n ≡ Greater → eqb m n ≡ false
greater_ids m n h = elim (cases_id m n) [
  | inl lt ↦ lesser_id m n lt
  | inr other ↦ elim other [ inl same ↦ unless Equal Greater (nat_cmp_is m n Equal same ∙ h) (λ e. omega (arith, e)) | inr gt ↦ greater_id m n gt ]
]

pub searched_ids : (id : ℕ) (ks : List OldKey) → AscendsBy IsOlder ks → (r : Result ℕ ℕ) → IsSearchInRange r (length ks) → IsBinarySearchResult (λ (k : OldKey). nat_cmp k.id id) ks r → is_ok r ≡ has_old id ks
searched_ids id ks h (Ok i) within equal = sym (some_passes (is_key id) ks i within (λ d. equal_ids (get_or ks i d).id id (equal d)))
searched_ids id ks h (Err i) within parted = ap is_some (sym (none_passes (is_key id) ks (λ k d lt. elim (cases_lt k i) [
  | inl below ↦ other_ids (get_or ks k d).id id ((parted (ids_rise id ks h)).0 k d (omega arith) below)
  | inr above ↦ greater_ids (get_or ks k d).id id ((parted (ids_rise id ks h)).1 k d above lt)
])))
