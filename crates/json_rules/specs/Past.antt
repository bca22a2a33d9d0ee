-- Tests past the end of a list, which nothing meets.
use Rattle.std.specs.Prelude.{ℕ, ◌≡◌, ◌≤◌, Bool, false, List, length, Option, Some, None, refl}
use Rattle.std.specs.List.{slice_get}
use Rattle.std.specs.Option.{option_map_or}
use Rattle.std.proofs.Common.{ap}
use Rattle.std.proofs.lemmas.Option.{slice_get_past}

-- a test of the item at an index
abbrev pub at_index : {X : Type 0} → (X → Bool) → List X → ℕ → Bool
at_index test items index = option_map_or test (slice_get items index) false

pub none_past : {X : Type 0} (test : X → Bool) (items : List X) (index : ℕ) → length items ≤ index → at_index test items index ≡ false
none_past test items index past = ap (λ o. option_map_or test o false) (slice_get_past items index past)

module _ {X Y : Type 0} (inner : X → List Y) where
  abbrev count_of : Option X → ℕ
  count_of o = option_map_or (λ x. length (inner x)) o 0

  -- how many inner items the item at an index has
  abbrev pub count_in : List X → ℕ → ℕ
  count_in items index = count_of (slice_get items index)

  none_of : (test : X → Y → Bool) (j : ℕ) (o : Option X) → count_of o ≤ j → option_map_or (λ x. at_index (test x) (inner x) j) o false ≡ false
  none_of test j None past = refl
  none_of test j (Some x) past = none_past (test x) (inner x) j past

  pub none_past_inner : (test : X → Y → Bool) (items : List X) (i j : ℕ) → count_in items i ≤ j → at_index (λ x. at_index (test x) (inner x) j) items i ≡ false
  none_past_inner test items i j past = none_of test j (slice_get items i) past
