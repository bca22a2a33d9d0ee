-- The handler that a verdict names.
use Rattle.std.proofs.Common.{◌≡◌, ◌<◌, ◌≤◌, inl, inr, ℕ, zero, suc, ◌+◌, List, [], ◌∷◌, length, get_or, Bool, true, false, refl, sym, subst, arith, true≢false, nat_lt}
use Rattle.std.specs.Prelude.{Some, None, Option}
use Rattle.std.specs.List.{HoldsAt}
use Rattle.std.proofs.lemmas.Bool.{cases_lt, ltb-true, ltb-false}
use Rattle.sql_tree.specs.declared.statement.Statement.{Statement}
use Rattle.censor.specs.declared.handler.Word.{Word}
use Rattle.censor.specs.declared.handler.Word.TheVariants as word
use Rattle.censor.specs.declared.handler.Handler.{Handler}
use Rattle.censor.specs.declared.verdict.Part.{Part}
use Rattle.censor.specs.declared.verdict.Verdict.TheVariants as verdict
use Rattle.censor.specs.Rules.{decides_always}
use Rattle.censor.specs.Verdicts.{entry_matches, is_empty, denies, part_at, Decides, DecidesNot, IsDeciding, IsVerdict, PartStands, NamesPart, verdict_of}
use Rattle.censor.proofs.Bounds.{within}

-- ---- at an index

pub below_next : (P : Handler → Type 0) (hs : List Handler) (n : ℕ) (h : Handler) → n < length hs → h ≡ get_or hs n h → ((i : ℕ) → i < n → HoldsAt P hs i) → P h
    → (i : ℕ) → i < n + 1 → HoldsAt P hs i
below_next P hs n h low is below here i high = elim (cases_lt i n) [
  | inl less ↦ below i less
  | inr more ↦ let same : n ≡ i = omega arith in subst (HoldsAt P hs) same (at_item P hs n h low is here)
]
  where
    at_item : (Q : Handler → Type 0) (xs : List Handler) (k : ℕ) (x : Handler) → k < length xs → x ≡ get_or xs k x → Q x → HoldsAt Q xs k
    at_item Q [] k x a b q = absurd (omega arith)
    at_item Q (y ∷ xs) zero x a b q = λ d. subst Q b q
    at_item Q (y ∷ xs) (suc k) x a b q = at_item Q xs k x (omega arith) b q

pub at_item : (Q : Handler → Type 0) (xs : List Handler) (k : ℕ) (x : Handler) → k < length xs → x ≡ get_or xs k x → Q x → HoldsAt Q xs k
at_item Q [] k x a b q = absurd (omega arith)
at_item Q (y ∷ xs) zero x a b q = λ d. subst Q b q
at_item Q (y ∷ xs) (suc k) x a b q = at_item Q xs k x (omega arith) b q

-- one handler doesn't both decide and not
clash : (s : Statement) (hs : List Handler) (i : ℕ) (by : Part) → i < length hs → HoldsAt (λ h. Decides s h by) hs i → HoldsAt (DecidesNot s) hs i → ⊥
clash s [] i by low a b = absurd (omega arith)
clash s (h ∷ hs) i by low a b = b h by (a h)

one_decides : (s : Statement) (hs : List Handler) (i j : ℕ) (a b : Part) → IsDeciding s hs i a → IsDeciding s hs j b → i ≡ j
one_decides s hs i j a b h k = elim (cases_lt i j) [
  | inl less ↦ absurd (clash s hs i a h.within h.decides (k.first i less))
  | inr most ↦ elim (cases_lt j i) [ inl more ↦ absurd (clash s hs j b k.within k.decides (h.first j more)) | inr least ↦ omega (arith, most, least) ]
]

-- ---- the verdict

module _ (s : Statement) (hs : List Handler) (some : is_empty s ≡ false) where
  pub by_handler : (i : ℕ) (h : Handler) (by : Part) → i < length hs → h ≡ get_or hs i h → ((k : ℕ) → k < i → HoldsAt (DecidesNot s) hs k) → Decides s h by
      → IsVerdict s hs (verdict_of (denies h.word) i by)
  by_handler i h by low is first decides = by_word (denies h.word) refl
    where
      deciding : IsDeciding s hs i by
      deciding = record { within = low; decides = at_item (λ x. Decides s x by) hs i h low is decides; first = first }

      by_word : (b : Bool) → denies h.word ≡ b → IsVerdict s hs (verdict_of b i by)
      by_word true e = (some, deciding, at_item (λ x. denies x.word ≡ true) hs i h low is e)
      by_word false e = inr (λ j other k.
          let same = one_decides s hs i j by other deciding k in
          subst (HoldsAt (λ x. denies x.word ≡ false) hs) same (at_item (λ x. denies x.word ≡ false) hs i h low is e))

  pub by_none : (n : ℕ) → length hs ≤ n → ((k : ℕ) → k < n → HoldsAt (DecidesNot s) hs k) → IsVerdict s hs verdict.Allowed
  by_none n past none = inr (λ i by k. let low = k.within in absurd (clash s hs i by k.within k.decides (none i (omega arith))))

-- ---- the part that is named

word_of_all : (w : Option Word) → decides_always w ≡ true → denies w ≡ true → w ≡ Some word.DenyAll
word_of_all None a d = absurd (true≢false (sym a))
word_of_all (Some word.Allow) a d = absurd (true≢false (sym a))
word_of_all (Some word.Deny) a d = absurd (true≢false (sym a))
word_of_all (Some word.AllowAll) a d = absurd (true≢false (sym d))
word_of_all (Some word.DenyAll) a d = refl

part_stands : (h : Handler) (index : ℕ) → index < length h.entries → PartStands (part_at h index) h
part_stands h index low = by (nat_lt index h.queries) refl
  where
    by_second : (b : Bool) → nat_lt index (h.queries + h.tables) ≡ b → nat_lt index h.queries ≡ false → PartStands (part_at h index) h
    by_second true e first =
        let k = ltb-true index (h.queries + h.tables) e in
        let f = ltb-false h.queries index in
        let g = ltb-false index h.queries first in
        rw (first, e) (omega arith)
    by_second false e first =
        let k = ltb-false index (h.queries + h.tables) e in
        let g = ltb-false index h.queries first in
        rw (first, e) (omega arith)

    by : (b : Bool) → nat_lt index h.queries ≡ b → PartStands (part_at h index) h
    by true e = let k = ltb-true index h.queries e in rw e k
    by false e = by_second (nat_lt index (h.queries + h.tables)) refl e

part_of_decided : (s : Statement) (h : Handler) (by : Part) → Decides s h by → denies h.word ≡ true → PartStands by h
part_of_decided s h by (inl (always, is)) d = subst (λ p. PartStands p h) (sym is) (word_of_all h.word always d)
part_of_decided s h by (inr (_, (index, first, is))) d = subst (λ p. PartStands p h) (sym is) (part_stands h index (within (entry_matches s) h.entries index first.matches))

pub named : (s : Statement) (hs : List Handler) (i : ℕ) (h : Handler) (by : Part) → i < length hs → h ≡ get_or hs i h → Decides s h by → NamesPart hs (verdict_of (denies h.word) i by)
named s hs i h by low is decides = by_word (denies h.word) refl
  where
    by_word : (b : Bool) → denies h.word ≡ b → NamesPart hs (verdict_of b i by)
    by_word true e = (low, at_item (PartStands by) hs i h low is (part_of_decided s h by decides e))
    by_word false e = tt
