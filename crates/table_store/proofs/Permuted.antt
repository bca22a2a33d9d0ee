-- Places that are taken one after the other.
use Rattle.std.proofs.Common.{◌≡◌, ◌≢◌, ◌<◌, ◌≤◌, ◌+◌, ◌⊎◌, ℕ, zero, suc, Bool, true, false, true≢false, List, [], ◌∷◌, ◌++◌, map, length, take, slice_index_or, slice_set, replicate, refl, sym, ap, ◌∙◌, subst, inl, inr, ⊎_elim, arith}
use Rattle.std.proofs.lemmas.Bool.{cases_eq, cases_lt}
use Rattle.std.proofs.lemmas.List.{take_more, get_or-set_same, get_or-set_other, length-set, length-replicate, get_or-replicate, map-append}
use Rattle.table_machine.specs.Reordered.{IsPermutationOf}

-- ---- which are taken

-- the first places were marked, no other; they are below the count and none is twice
pub record Marked (places : List ℕ) (count i : ℕ) (taken : List Bool) : Type 0 where
  pub wide : length taken ≡ count
  pub below : (j : ℕ) → j < i → slice_index_or places j 0 < count
  pub once : (j k : ℕ) → j < i → k < i → slice_index_or places j 0 ≡ slice_index_or places k 0 → j ≡ k
  pub marked : (j : ℕ) → j < i → slice_index_or taken (slice_index_or places j 0) false ≡ true
  pub only : (p : ℕ) → p < count → slice_index_or taken p false ≡ true → (j : ℕ) × (j < i) × (slice_index_or places j 0 ≡ p)

pub marked_none : (places : List ℕ) (count : ℕ) → Marked places count 0 (replicate count false)
marked_none places count = record {
  wide = length-replicate count false;
  below = λ j h. absurd (omega arith);
  once = λ j k h. absurd (omega arith);
  marked = λ j h. absurd (omega arith);
  only = λ p h e. absurd (true≢false (sym e ∙ get_or-replicate count p false false h));
}

last_or : (j i : ℕ) → j < i + 1 → (j < i) ⊎ (j ≡ i)
last_or j i h = ⊎_elim inl (λ g. inr (omega arith)) (cases_lt j i)

module _ (places : List ℕ) (count i : ℕ) (taken : List Bool) (m : Marked places count i taken) (p : ℕ) (at : slice_index_or places i 0 ≡ p) where
  module _ (within : p < count) (free : slice_index_or taken p false ≡ false) where
    new : (j : ℕ) → j < i → slice_index_or places j 0 ≢ p
    new j h e = true≢false (sym (m.marked j h) ∙ (ap (λ w. slice_index_or taken w false) e ∙ free))

    set_in : slice_index_or (slice_set taken p true) p false ≡ true
    set_in = get_or-set_same taken p true false (let w = m.wide in omega arith)

    set_out : (q : ℕ) → q ≢ p → slice_index_or (slice_set taken p true) q false ≡ slice_index_or taken q false
    set_out q n = get_or-set_other taken p q true false n

    below : (j : ℕ) → j < i + 1 → slice_index_or places j 0 < count
    below j h = ⊎_elim (m.below j) (λ e. subst (λ w. w < count) (sym (ap (λ w. slice_index_or places w 0) e ∙ at)) within) (last_or j i h)

    once : (j k : ℕ) → j < i + 1 → k < i + 1 → slice_index_or places j 0 ≡ slice_index_or places k 0 → j ≡ k
    once j k h g e = ⊎_elim
        (λ a. ⊎_elim (λ b. m.once j k a b e) (λ b. absurd (new j a (e ∙ (ap (λ w. slice_index_or places w 0) b ∙ at)))) (last_or k i g))
        (λ a. ⊎_elim (λ b. absurd (new k b (sym e ∙ (ap (λ w. slice_index_or places w 0) a ∙ at)))) (λ b. a ∙ sym b) (last_or k i g))
        (last_or j i h)

    marked : (j : ℕ) → j < i + 1 → slice_index_or (slice_set taken p true) (slice_index_or places j 0) false ≡ true
    marked j h = ⊎_elim
        (λ a. set_out (slice_index_or places j 0) (new j a) ∙ m.marked j a)
        (λ a. ap (λ w. slice_index_or (slice_set taken p true) w false) (ap (λ w. slice_index_or places w 0) a ∙ at) ∙ set_in)
        (last_or j i h)

    only : (q : ℕ) → q < count → slice_index_or (slice_set taken p true) q false ≡ true → (j : ℕ) × (j < i + 1) × (slice_index_or places j 0 ≡ q)
    only q h e = ⊎_elim
        (λ s. (i, (omega arith), at ∙ sym s))
        (λ n. let f = m.only q h (sym (set_out q n) ∙ e) in (f.0, (let l = f.1 in omega arith), f.2))
        (cases_eq q p)

    -- one more is taken
    pub marked_more : Marked places count (i + 1) (slice_set taken p true)
    marked_more = record { wide = length-set taken p true ∙ m.wide; below = below; once = once; marked = marked; only = only }

  -- one that is too great, or taken
  pub too_great : i < length places → count ≤ p → IsPermutationOf places count → ⊥
  too_great h g all = let b = all.below i h in let e = at in absurd (omega arith)

  pub taken_already : i < length places → slice_index_or taken p false ≡ true → IsPermutationOf places count → ⊥
  taken_already h t all =
      let b = subst (λ w. w < count) at (all.below i h) in
      let f = m.only p b t in
      let l = f.1 in
      let e = all.once f.0 i (omega arith) h (f.2 ∙ sym at) in omega arith

pub all_marked : (places : List ℕ) (count i : ℕ) (taken : List Bool) → Marked places count i taken → i ≡ length places → length places ≡ count → IsPermutationOf places count
all_marked places count i taken m e many = record {
  many = many;
  below = λ j h. m.below j (subst (λ w. j < w) (sym e) h);
  once = λ j k h g. m.once j k (subst (λ w. j < w) (sym e) h) (subst (λ w. k < w) (sym e) g);
}

-- ---- rows that were moved

-- the rows at the first places were moved, in that order; the others stand as before
pub record Moved {R : Type 0} (none : R) (places : List ℕ) (i : ℕ) (before left moved : List R) : Type 0 where
  pub long : length left ≡ length before
  pub those : moved ≡ map (λ p. slice_index_or before p none) (take i places)
  pub rest : (p : ℕ) → ((j : ℕ) → j < i → slice_index_or places j 0 ≢ p) → slice_index_or left p none ≡ slice_index_or before p none

pub moved_none : {R : Type 0} (none : R) (places : List ℕ) (before : List R) → Moved none places 0 before before []
moved_none none places before = record { long = refl; those = refl; rest = λ p f. refl }

pub moved_more : {R : Type 0} (none : R) (places : List ℕ) (i : ℕ) (before left moved : List R) (p : ℕ) → Moved none places i before left moved → IsPermutationOf places (length before) → i < length places
    → slice_index_or places i 0 ≡ p → Moved none places (i + 1) before (slice_set left p none) (moved ++ slice_index_or left p none ∷ [])
moved_more none places i before left moved p m all h at = record {
  long = length-set left p none ∙ m.long;
  those =
      let same : slice_index_or left p none ≡ slice_index_or before p none =
      m.rest p (λ j l e. let s = all.once j i (omega arith) h (e ∙ sym at) in omega arith) in
      ap (λ w. w ++ slice_index_or left p none ∷ []) m.those
      ∙ (ap (λ w. map (λ q. slice_index_or before q none) (take i places) ++ w ∷ []) same
      ∙ (ap (λ w. map (λ q. slice_index_or before q none) (take i places) ++ slice_index_or before w none ∷ []) (sym at)
      ∙ (sym (map-append (λ q. slice_index_or before q none) (take i places) (slice_index_or places i 0 ∷ [])) ∙ ap (map (λ q. slice_index_or before q none)) (sym (take_more places i 0 h)))));
  rest = λ q f.
      get_or-set_other left p q none none (λ e. f i (omega arith) (at ∙ sym e)) ∙ m.rest q (λ j l. f j (omega arith));
}

same_row : {R : Type 0} (xs : List R) (i : ℕ) (d e : R) → i < length xs → slice_index_or xs i d ≡ slice_index_or xs i e
same_row [] i d e h = absurd (omega arith)
same_row (x ∷ xs) zero d e h = refl
same_row (x ∷ xs) (suc i) d e h = same_row xs i d e (omega arith)

-- as the loop moves it
pub row_moved : {R : Type 0} (none : R) (places : List ℕ) (i : ℕ) (before left moved : List R) → Moved none places i before left moved → IsPermutationOf places (length before) → i < length places
    → (row put : R) (next : List R) → slice_index_or left (slice_index_or places i 0) row ≡ row → put ≡ none → next ≡ moved ++ row ∷ []
    → Moved none places (i + 1) before (slice_set left (slice_index_or places i 0) put) next
row_moved none places i before left moved m all h row put next e f g =
    let p = slice_index_or places i 0 in
    let within : p < length left = subst (λ w. p < w) (sym m.long) (all.below i h) in
    let n = moved_more none places i before left moved p m all h refl in
    let r : slice_index_or left p none ≡ row = same_row left p none row within ∙ e in
    let k = subst (λ w. Moved none places (i + 1) before (slice_set left p none) (moved ++ w ∷ [])) r n in
    subst (λ w. Moved none places (i + 1) before (slice_set left p w) next) (sym f) (subst (λ w. Moved none places (i + 1) before (slice_set left p none) w) (sym g) k)
