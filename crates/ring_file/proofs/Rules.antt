-- Ids and names in order, and apart.
use Rattle.std.proofs.Common.{◌≡◌, ℕ, ◌<◌, ◌≤◌, ◌&&◌, ◌||◌, ◌⊎◌, not, Bool, true, false, if◌then◌else◌, eqb, ltb, List, [], ◌∷◌, ◌++◌, Option, Some, is_some, refl, sym, subst, ◌∙◌, arith, inl, inr}
use Rattle.std.specs.List.{AllByRecursion, list_any}
use Rattle.std.specs.Ordering.{is_lt}
use Rattle.std.specs.declared.cmp.Ordering.{Ordering}
use Rattle.std.specs.declared.cmp.Ordering.TheVariants.{Less, Equal, Greater}
use Rattle.std.proofs.lemmas.Cmp.{nat_list_cmp_total}
use Rattle.std.proofs.lemmas.Bool.{ltb-true, lt-ltb, eqb-true, eq-eqb}
use Rattle.keystore.specs.declared.phase.OldKey.{OldKey}
use Rattle.keystore.specs.Lists.{first, AscendsBy}
use Rattle.keystore.specs.Rings.{ClientKeys, name_cmp, is_key}
use Rattle.keystore.specs.Kept.{IsOlder, IsBefore, IsApart, has_old, has_id}
use Rattle.ring_file.specs.Reading.{last_of, comes_after, id_or_zero, can_be_id}

-- ---- tests

pub both_true : (a b : Bool) → (a && b) ≡ true → (a ≡ true) × (b ≡ true)
both_true true b h = (refl, h)
both_true false b h = absurd (cc h)

pub not_true : (a : Bool) → not a ≡ true → a ≡ false
not_true true h = absurd (cc h)
not_true false h = refl

pub either_false : (a b : Bool) → (a || b) ≡ false → (a ≡ false) × (b ≡ false)
either_false true b h = absurd (cc h)
either_false false b h = (refl, h)

either_true : (a b : Bool) → (a || b) ≡ true → (a ≡ true) ⊎ (b ≡ true)
either_true true b h = inl refl
either_true false b h = inr h

pub or_second : (a b : Bool) → b ≡ true → (a || b) ≡ true
or_second true b h = refl
or_second false b h = h

one_way : (a : Bool) → a ≡ true → a ≡ false → ⊥
one_way a t f = let e : true ≡ false = sym t ∙ f in cc e

-- ---- the items of a list

pub all_middle : {A : Type 0} (P : A → Type 0) (xs : List A) (y : A) (ys : List A) → AllByRecursion P (xs ++ y ∷ ys) → P y
all_middle P [] y ys h = h.0
all_middle P (x ∷ xs) y ys h = all_middle P xs y ys h.1

pub ascends_front : {A : Type 0} (R : A → A → Type 0) (xs : List A) (y : A) (ys : List A) → AscendsBy R (xs ++ y ∷ ys) → AllByRecursion (λ x. R x y) xs
ascends_front R [] y ys h = tt
ascends_front R (x ∷ xs) y ys h = (all_middle (R x) xs y ys h.0, ascends_front R xs y ys h.1)

pub all_behind : {A : Type 0} (P : A → Type 0) (xs ys : List A) → AllByRecursion P (xs ++ ys) → AllByRecursion P ys
all_behind P [] ys h = h
all_behind P (x ∷ xs) ys h = all_behind P xs ys h.1

-- ---- ids

pub last_below : (past : List OldKey) (id : ℕ) → AscendsBy IsOlder past → id_or_zero (last_of past) < id → AllByRecursion (λ (k : OldKey). k.id < id) past
last_below [] id up lt = tt
last_below (k ∷ []) id up lt = (lt, tt)
last_below (k ∷ (j ∷ js)) id up lt =
    let rest = last_below (j ∷ js) id up.1 lt in
    (let older : k.id < j.id = up.0.0 in let below : j.id < id = rest.0 in omega arith, rest)

pub below_last : (past : List OldKey) (id : ℕ) → 1 ≤ id → AllByRecursion (λ (k : OldKey). k.id < id) past → id_or_zero (last_of past) < id
below_last [] id least h = omega arith
below_last (k ∷ []) id least h = h.0
below_last (k ∷ (j ∷ js)) id least h = below_last (j ∷ js) id least h.1

pub id_can : (next : ℕ) (before : List ClientKeys) (past : List OldKey) (id : ℕ) → can_be_id next before past id ≡ true
    → (id_or_zero (last_of past) < id) × ((id < next) × (list_any (has_id id) before ≡ false))
id_can next before past id h =
    let a = both_true (ltb (id_or_zero (last_of past)) id && ltb id next) (not (list_any (has_id id) before)) h in
    let b = both_true (ltb (id_or_zero (last_of past)) id) (ltb id next) a.0 in
    (ltb-true _ _ b.0, (ltb-true _ _ b.1, not_true _ a.1))

pub can_id : (next : ℕ) (before : List ClientKeys) (past : List OldKey) (id : ℕ) → id_or_zero (last_of past) < id → id < next → list_any (has_id id) before ≡ false → can_be_id next before past id ≡ true
can_id next before past id lt below free = rw (lt-ltb _ _ lt, lt-ltb _ _ below, free) refl

-- ---- no id is of two clients

pub own_id : (c : ClientKeys) → has_id c.id c ≡ true
own_id c = let same : eqb c.id c.id ≡ true = eq-eqb c.id c.id refl in rw same refl

old_by_test : (k : OldKey) (o : Option OldKey) (b : Bool) → is_some o ≡ true → is_some (if b then Some k else o) ≡ true
old_by_test k o true h = refl
old_by_test k o false h = h

pub old_id : (id : ℕ) (k : OldKey) (ks : List OldKey) → has_old id ks ≡ true → has_old id (k ∷ ks) ≡ true
old_id id k ks h = old_by_test k (first (is_key id) ks) (eqb k.id id) h

pub first_old : (k : OldKey) (ks : List OldKey) → has_old k.id (k ∷ ks) ≡ true
first_old k ks = let same : eqb k.id k.id ≡ true = eq-eqb k.id k.id refl in rw same refl

-- what holds of the ids of all keys holds of each id
old_case : (P : ℕ → Type 0) (id : ℕ) (k : OldKey) (o : Option OldKey) (b : Bool) → eqb k.id id ≡ b → P k.id → (is_some o ≡ true → P id) → is_some (if b then Some k else o) ≡ true → P id
old_case P id k o true same p rest h = subst P (eqb-true k.id id same) p
old_case P id k o false same p rest h = rest h

pub old_ids : (P : ℕ → Type 0) (id : ℕ) (ks : List OldKey) → AllByRecursion (λ (k : OldKey). P k.id) ks → has_old id ks ≡ true → P id
old_ids P id [] p h = absurd (cc h)
old_ids P id (k ∷ ks) p h = old_case P id k (first (is_key id) ks) (eqb k.id id) refl p.0 (old_ids P id ks p.1) h

pub all_ids : (P : ℕ → Type 0) (c : ClientKeys) → P c.id → AllByRecursion (λ (k : OldKey). P k.id) c.past → (id : ℕ) → has_id id c ≡ true → P id
all_ids P c this each id h = elim (either_true (eqb c.id id) (has_old id c.past) h) [
  | inl here ↦ subst P (eqb-true c.id id here) this
  | inr old ↦ old_ids P id c.past each old
]

pub free_apart : (before : List ClientKeys) (c : ClientKeys) → ((id : ℕ) → has_id id c ≡ true → list_any (has_id id) before ≡ false) → AllByRecursion (λ (d : ClientKeys). IsApart d c) before
free_apart [] c h = tt
free_apart (d ∷ ds) c h = (
  record { none = λ id hd hc. one_way (has_id id d) hd (either_false (has_id id d) (list_any (has_id id) ds) (h id hc)).0 },
  free_apart ds c (λ id hc. (either_false (has_id id d) (list_any (has_id id) ds) (h id hc)).1),
)

free_by_test : (a b : Bool) → (a ≡ true → ⊥) → b ≡ false → (a || b) ≡ false
free_by_test true b h k = absurd (h refl)
free_by_test false b h k = k

pub apart_free : (before : List ClientKeys) (c : ClientKeys) (id : ℕ) → AllByRecursion (λ (d : ClientKeys). IsApart d c) before → has_id id c ≡ true → list_any (has_id id) before ≡ false
apart_free [] c id h hc = refl
apart_free (d ∷ ds) c id h hc = free_by_test (has_id id d) (list_any (has_id id) ds) (λ hd. h.0.none id hd hc) (apart_free ds c id h.1 hc)

-- ---- names

pub is_less : (o : Ordering) → is_lt o ≡ true → o ≡ Less
is_less Less h = refl
is_less Equal h = absurd (cc h)
is_less Greater h = absurd (cc h)

pub last_before : (before : List ClientKeys) (name : List ℕ) → AscendsBy IsBefore before → comes_after (last_of before) name ≡ true → AllByRecursion (λ (d : ClientKeys). name_cmp d.name name ≡ Less) before
last_before [] name up h = tt
last_before (c ∷ []) name up h = (is_less (name_cmp c.name name) h, tt)
last_before (c ∷ (d ∷ ds)) name up h =
    let rest = last_before (d ∷ ds) name up.1 h in
    (nat_list_cmp_total.trans c.name d.name name up.0.0 rest.0, rest)

pub before_last : (before : List ClientKeys) (name : List ℕ) → AllByRecursion (λ (d : ClientKeys). name_cmp d.name name ≡ Less) before → comes_after (last_of before) name ≡ true
before_last [] name h = refl
before_last (c ∷ []) name h = let less : name_cmp c.name name ≡ Less = h.0 in rw less refl
before_last (c ∷ (d ∷ ds)) name h = before_last (d ∷ ds) name h.1
