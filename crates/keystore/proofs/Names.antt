-- Clients in the order of their names.
use Rattle.std.proofs.Common.{◌≡◌, ℕ, zero, suc, ◌<◌, ◌+◌, false, List, [], ◌∷◌, length, get_or, None, Result, Ok, Err, eqb, refl, ap, sym, subst, ◌∙◌, arith, inl, inr}
use Rattle.std.specs.List.{AllByRecursion, insert}
use Rattle.std.specs.List.Sorted.{IsSearchInRange, IsBinarySearchResult, IsNonDecreasingBy}
use Rattle.std.specs.Ordering.{nat_cmp, is_eq, is_lt, ordering_index}
use Rattle.std.specs.Cmp.Lexicographic.{pointwise}
use Rattle.std.specs.declared.cmp.Ordering.{Ordering}
use Rattle.std.specs.declared.cmp.Ordering.TheVariants.{Less, Equal, Greater}
use Rattle.std.proofs.lemmas.Cmp.{nat_list_cmp_total, nat_list_eq_equiv, same_from_slice_cmp}
use Rattle.std.proofs.lemmas.List.Elements.{All-from_recursion, recursion_from_All}
use Rattle.std.proofs.lemmas.List.Sorted.{searchable_from_sorted}
use Rattle.std.proofs.lemmas.Slice.Eq.{bytes_eq-Decides}
use Rattle.std.proofs.lemmas.Bool.{cases_lt}
use Rattle.std.proofs.lemmas.Bool.Decides.{nat_tests}
use Rattle.keystore.specs.Lists.{first, AscendsBy}
use Rattle.keystore.specs.Rings.{ClientKeys, name_cmp, is_named, added}
use Rattle.keystore.specs.Kept.{IsBefore}
use Rattle.keystore.specs.Places.{Stands, Fits, IsClientAt, IsPlaced}
use Rattle.keystore.proofs.Items.{none_passes}

-- two names are the same exactly where they compare so
same_names : (a b : List ℕ) → is_eq (name_cmp a b) ≡ pointwise eqb a b
same_names a b = same_from_slice_cmp nat_cmp is_eq (pointwise eqb) refl (λ _ _. refl) (λ _ _. refl) (λ x y xs ys o h. grind (arith, nat_tests)) a b (name_cmp a b) refl

equal_names : (a b : List ℕ) → name_cmp a b ≡ Equal → a ≡ b
equal_names a b h = (bytes_eq-Decides a b).0 (sym (same_names a b) ∙ ap is_eq h)

other_names : (a b : List ℕ) (o : Ordering) → name_cmp a b ≡ o → is_eq o ≡ false → pointwise eqb a b ≡ false
other_names a b o h e = sym (same_names a b) ∙ (ap is_eq h ∙ e)

turned : (a b : List ℕ) → name_cmp a b ≡ Greater → name_cmp b a ≡ Less
turned a b h = nat_list_cmp_total.antisymm b a ∙ rw h

turned_back : (a b : List ℕ) → name_cmp a b ≡ Less → is_lt (name_cmp b a) ≡ false
turned_back a b h = rw (nat_list_cmp_total.antisymm b a) (rw h)

names_at : (cs : List ClientKeys) → AscendsBy IsBefore cs → (i j : ℕ) (d : ClientKeys) → i < j → j < length cs → name_cmp (get_or cs i d).name (get_or cs j d).name ≡ Less
names_at [] h i j d lt in_range = absurd (omega arith)
names_at (c ∷ cs) h i zero d lt in_range = absurd (omega arith)
names_at (c ∷ cs) h zero (suc j) d lt in_range = All-from_recursion (λ (e : ClientKeys). name_cmp c.name e.name ≡ Less) cs h.0 j d (omega arith)
names_at (c ∷ cs) h (suc i) (suc j) d lt in_range = names_at cs h.1 i j d (omega arith) (omega arith)

names_rise : (who : List ℕ) (cs : List ClientKeys) → AscendsBy IsBefore cs → IsNonDecreasingBy (λ (c : ClientKeys). ordering_index (name_cmp c.name who)) cs
names_rise who cs h = searchable_from_sorted nat_list_cmp_total (λ (c : ClientKeys). c.name) cs who (λ k d low lt. turned_back (get_or cs k d).name (get_or cs (k + 1) d).name (names_at cs h k (k + 1) d (omega arith) lt))

pub searched : (who : List ℕ) (cs : List ClientKeys) → AscendsBy IsBefore cs → (r : Result ℕ ℕ) → IsSearchInRange r (length cs) → IsBinarySearchResult (λ (c : ClientKeys). name_cmp c.name who) cs r → IsPlaced who cs r
searched who cs h (Ok i) within equal = record {
  within = within;
  before = λ k d lt. subst (λ (n : List ℕ). name_cmp (get_or cs k d).name n ≡ Less) (equal_names _ who (equal d)) (names_at cs h k i d lt within);
  same = λ d. equal_names _ who (equal d);
}
searched who cs h (Err i) within parted = record {
  within = within;
  before = λ k d lt. (parted (names_rise who cs h)).0 k d (omega arith) lt;
  after = λ k d le lt. (parted (names_rise who cs h)).1 k d le lt;
}

-- ---- what is found there

pub stands_at : (who : List ℕ) (cs : List ClientKeys) (i : ℕ) → IsClientAt who cs i → Stands (is_named who) cs i
stands_at who cs i h = record {
  within = h.within;
  passes = λ d. rw (h.same d) (nat_list_eq_equiv.refl who);
  before = λ k d lt. other_names _ who Less (h.before k d lt) refl;
}

pub absent : (who : List ℕ) (cs : List ClientKeys) (i : ℕ) → Fits who cs i → first (is_named who) cs ≡ None
absent who cs i h = none_passes (is_named who) cs (λ k d lt. elim (cases_lt k i) [
  | inl below ↦ other_names _ who Less (h.before k d below) refl
  | inr above ↦ other_names _ who Greater (h.after k d above lt) refl
])

-- ---- a new client

fits_tail : (who : List ℕ) (c : ClientKeys) (cs : List ClientKeys) (i : ℕ) → Fits who (c ∷ cs) (suc i) → Fits who cs i
fits_tail who c cs i h = record {
  within = omega (arith, h.within);
  before = λ k d lt. h.before (suc k) d (omega arith);
  after = λ k d le lt. h.after (suc k) d (omega arith) (omega arith);
}

pub added_at : (c : ClientKeys) (cs : List ClientKeys) (i : ℕ) → Fits c.name cs i → added c cs ≡ insert cs i c
added_at c [] zero h = refl
added_at c [] (suc i) h = absurd (omega (arith, h.within))
added_at c (d ∷ ds) zero h = rw (h.after 0 d (omega arith) (omega arith))
added_at c (d ∷ ds) (suc i) h = rw (h.before 0 d (omega arith)) (ap (λ (es : List ClientKeys). d ∷ es) (added_at c ds i (fits_tail c.name d ds i h)))

pub all_added : (P : ClientKeys → Type 0) (c : ClientKeys) (cs : List ClientKeys) (i : ℕ) → Fits c.name cs i → P c → AllByRecursion P cs → AllByRecursion P (added c cs)
all_added P c [] i h this each = (this, tt)
all_added P c (d ∷ ds) zero h this each = rw (h.after 0 d (omega arith) (omega arith)) (this, each)
all_added P c (d ∷ ds) (suc i) h this each = rw (h.before 0 d (omega arith)) (each.0, all_added P c ds i (fits_tail c.name d ds i h) this each.1)

pub names_added : (c : ClientKeys) (cs : List ClientKeys) (i : ℕ) → Fits c.name cs i → AscendsBy IsBefore cs → AscendsBy IsBefore (added c cs)
names_added c [] i h up = (tt, tt)
names_added c (d ∷ ds) zero h up = rw (h.after 0 d (omega arith) (omega arith))
    (recursion_from_All (λ (e : ClientKeys). name_cmp c.name e.name ≡ Less) (d ∷ ds) (λ k e lt. turned (get_or (d ∷ ds) k e).name c.name (h.after k e (omega arith) lt)), up)
names_added c (d ∷ ds) (suc i) h up = rw (h.before 0 d (omega arith))
    (all_added (λ (e : ClientKeys). name_cmp d.name e.name ≡ Less) c ds i (fits_tail c.name d ds i h) (h.before 0 d (omega arith)) up.0, names_added c ds i (fits_tail c.name d ds i h) up.1)
