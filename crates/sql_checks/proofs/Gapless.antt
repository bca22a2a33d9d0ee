-- The marks of the numbers of parameters, and what they tell.
use Rattle.std.proofs.Common.{◌≡◌, ℕ, ◌+◌, ◌-◌, ◌<◌, suc, ◌≤◌, inl, inr, Bool, true, false, ◌||◌, List, [], ◌∷◌, ◌++◌, length, get_or, take, drop, replicate, max, refl, sym, ap, subst, ◌∙◌, arith}
use Rattle.std.specs.Prelude.{IsTrue, nat_eq, ◌↔◌, Contains}
use Rattle.std.specs.List.{list_any, list_all}
use Rattle.std.proofs.Math.Bool.{or-true}
use Rattle.std.proofs.lemmas.Bool.{eqb-true, eq-eqb, cases_Bool, or_cases, both_ways, and_from, cases_lt}
use Rattle.std.proofs.lemmas.List.{get_or-drop, length-drop, take_rest, take_at, get_or-replicate, length-replicate}
use Rattle.std.proofs.lemmas.List.Folds.{Any-from_list_any, list_any_at, list_all_at}
use Rattle.sql_tokens.specs.declared.token.Placed.{Placed}
use Rattle.sql_tree.specs.Shapes.{most}
use Rattle.sql_tree.specs.Spelling.{IsGapless, tokens_of}
use Rattle.sql_readers.specs.Passes.{numbers}

abbrev pub numbers_of : List Placed → List ℕ
numbers_of placed = numbers (tokens_of placed)

abbrev pub has : ℕ → List ℕ → Bool
has k used = list_any (nat_eq k) used

-- ---- what a list of numbers has

contained : (used : List ℕ) (n : ℕ) → has n used ≡ true → Contains used n
contained used n h = let a = Any-from_list_any (nat_eq n) used h in (a.0, a.2, get_is a.0 a.1 a.3 (eqb-true n a.1 a.4)) where
  get_is : (k x : ℕ) → get_or used k x ≡ x → n ≡ x → get_or used k n ≡ n
  get_is k x e same = rw same e

found : (used : List ℕ) (n : ℕ) → Contains used n → has n used ≡ true
found used n c = list_any_at (nat_eq n) used c.0 n c.1 (eq-eqb n _ (sym c.2))

below_most : (used : List ℕ) (n : ℕ) → has n used ≡ true → n ≤ most used
below_most [] n h = absurd (both_ways false refl h)
below_most (x ∷ used) n h = elim (or_cases (nat_eq n x) (has n used) h) [
  | inl e ↦ let same = eqb-true n x e in omega arith
  | inr more ↦ let le = below_most used n more in omega (arith, le)
]

has_rest : (n x : ℕ) (used : List ℕ) → has n used ≡ true → has n (x ∷ used) ≡ true
has_rest n x used h = ap (λ b. nat_eq n x || b) h ∙ or-true (nat_eq n x)

has_first : (n x : ℕ) (used : List ℕ) → n ≡ x → has n (x ∷ used) ≡ true
has_first n x used e = ap (λ b. b || has n used) (eq-eqb n x e)

has_most : (used : List ℕ) → 1 ≤ most used → has (most used) used ≡ true
has_most [] h = absurd (omega arith)
has_most (x ∷ used) h = elim (cases_lt x (most used)) [
  | inl lt ↦
      let P : ℕ → Type 0 = λ n. has n (x ∷ used) ≡ true in
      let is : most used ≡ max x (most used) = omega arith in
      subst P is (has_rest (most used) x used (has_most used (omega arith)))
  | inr le ↦ has_first (max x (most used)) x used (omega arith)
]

-- ---- marks

all_set : (marks : List Bool) → list_all (λ m. m) marks ≡ true → (k : ℕ) → k < length marks → get_or marks k false ≡ true
all_set marks h k lt = elim (cases_Bool (get_or marks k false)) [
  | inl e ↦ e
  | inr e ↦ absurd (both_ways _ (list_all_at (λ m. m) marks k false lt e) h)
]

set_all : (marks : List Bool) → ((k : ℕ) → k < length marks → get_or marks k false ≡ true) → list_all (λ m. m) marks ≡ true
set_all [] each = refl
set_all (m ∷ marks) each = and_from m (list_all (λ m. m) marks) (each 0 (omega arith)) (set_all marks (λ k lt. each (suc k) (omega arith)))

-- each number from 1 to the highest is used, and 0 is not
pub gapless : (used : List ℕ) → has 0 used ≡ false → ((k : ℕ) → 1 ≤ k → k ≤ most used → has k used ≡ true) → IsGapless used
gapless used none each = (most used, λ n. (λ c. bounds n (found used n c), λ b. contained used n (each n b.0 b.1))) where
  bounds : (n : ℕ) → has n used ≡ true → (1 ≤ n) × (n ≤ most used)
  bounds n h = (positive n h, below_most used n h) where
    positive : (n : ℕ) → has n used ≡ true → 1 ≤ n
    positive n h = elim (cases_lt 0 n) [ inl lt ↦ omega arith | inr le ↦ let z : n ≡ 0 = omega arith in absurd (both_ways _ none (rw z at h)) ]

pub no_zero : (used : List ℕ) → has 0 used ≡ true → IsGapless used → ⊥
no_zero used h g = let b = (g.1 0).0 (contained used 0 h) in omega (arith, b.0)

all_used : (used : List ℕ) → IsGapless used → (k : ℕ) → 1 ≤ k → k ≤ most used → has k used ≡ true
all_used used g k low high =
    let b = (g.1 (most used)).0 (contained used (most used) (has_most used (omega arith))) in
    found used k ((g.1 k).1 (low, omega (arith, b.1)))

-- the marks but the first are all set
decided : (used : List ℕ) (marks : List Bool) → length marks ≡ most used + 1 → ((k : ℕ) → k < length marks → get_or marks k false ≡ has k used) → has 0 used ≡ false
    → IsTrue (list_all (λ m. m) (drop 1 marks)) ↔ IsGapless used
decided used marks len each none = (
  λ h. gapless used none (λ k low high.
      let at : 1 + (k - 1) ≡ k = omega arith in
      sym (each k (omega arith)) ∙ ap (λ j. get_or marks j false) (sym at) ∙ sym (get_or-drop 1 marks (k - 1) false)
      ∙ all_set (drop 1 marks) h (k - 1) (omega (arith, length-drop 1 marks))),
  λ g. set_all (drop 1 marks) (λ k lt.
      get_or-drop 1 marks k false ∙ each (1 + k) (omega (arith, length-drop 1 marks)) ∙ all_used used g (1 + k) (omega arith) (omega (arith, length-drop 1 marks))),
)

-- fresh marks, lent and marked, and shown again
pub marks_tell : (used : List ℕ) (count : ℕ) (fresh lent marked shown : List Bool) → count ≡ most used → has 0 used ≡ false
    → fresh ≡ replicate (count + 1) false → lent ≡ fresh → length marked ≡ length lent
    → ((k : ℕ) → k < length lent → get_or marked k false ≡ (get_or lent k false || has k used))
    → (len : ℕ) → len ≡ count + 1 → shown ≡ take len (marked ++ drop (length marked) fresh)
    → (r : Bool) → r ≡ list_all (λ m. m) (take (length shown - 1) (drop 1 shown)) → IsTrue r ↔ IsGapless used
marks_tell used count fresh lent marked shown most_is none fresh_is lent_is kept marks len len_is shown_is r r_is =
    let same : lent ≡ replicate (count + 1) false = lent_is ∙ fresh_is in
    let long : length lent ≡ count + 1 = ap length same ∙ length-replicate (count + 1) false in
    let whole : shown ≡ marked = shown_is ∙ take_at marked (drop (length marked) fresh) len (omega (arith, kept, long)) in
    let each : (k : ℕ) → k < length marked → get_or marked k false ≡ has k used =
    λ k lt. marks k (omega (arith, kept)) ∙ ap (λ b. b || has k used) (ap (λ xs. get_or xs k false) same ∙ get_or-replicate (count + 1) k false false (omega (arith, kept, long))) in
    let P : Bool → Type 0 = λ b. IsTrue b ↔ IsGapless used in
    subst P (sym (r_is ∙ ap (list_all (λ m. m)) (take_rest shown 1) ∙ ap (λ xs. list_all (λ m. m) (drop 1 xs)) whole))
    (decided used marked (omega (arith, kept, long)) each none)
