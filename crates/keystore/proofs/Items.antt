-- The first item that passes, by its place.
use Rattle.std.proofs.Common.{◌≡◌, ℕ, zero, suc, ◌<◌, ◌≤◌, Bool, true, false, if◌then◌else◌, List, [], ◌∷◌, ◌++◌, length, get_or, take, drop, Some, None, refl, ap, arith}
use Rattle.std.specs.List.{AllByRecursion}
use Rattle.keystore.specs.Lists.{first, edited, AscendsBy}
use Rattle.keystore.specs.Places.{Stands}

module _ {A : Type 0} (p : A → Bool) where
  stands_tail : (x : A) (xs : List A) (i : ℕ) → Stands p (x ∷ xs) (suc i) → Stands p xs i
  stands_tail x xs i h = record { within = omega (arith, h.within); passes = λ d. h.passes d; before = λ k d lt. h.before (suc k) d (omega arith) }

  pub first_at : (xs : List A) (i : ℕ) (d : A) → Stands p xs i → first p xs ≡ Some (get_or xs i d)
  first_at [] i d h = absurd (omega (arith, h.within))
  first_at (x ∷ xs) zero d h = rw (h.passes d)
  first_at (x ∷ xs) (suc i) d h = rw (h.before 0 d (omega arith)) (first_at xs i d (stands_tail x xs i h))

  pub edited_at : (f : A → List A) (xs : List A) (i : ℕ) (d : A) → Stands p xs i → edited p f xs ≡ take i xs ++ (f (get_or xs i d) ++ drop (suc i) xs)
  edited_at f [] i d h = absurd (omega (arith, h.within))
  edited_at f (x ∷ xs) zero d h = rw (h.passes d)
  edited_at f (x ∷ xs) (suc i) d h = rw (h.before 0 d (omega arith)) (ap (λ (ys : List A). x ∷ ys) (edited_at f xs i d (stands_tail x xs i h)))

  pub none_passes : (xs : List A) → ((k : ℕ) (d : A) → k < length xs → p (get_or xs k d) ≡ false) → first p xs ≡ None
  none_passes [] h = refl
  none_passes (x ∷ xs) h = rw (h 0 x (omega arith)) (none_passes xs (λ k d lt. h (suc k) d (omega arith)))

  edited_by_test : (f : A → List A) (x : A) (xs : List A) (b : Bool) → (if b then Some x else first p xs) ≡ None → (first p xs ≡ None → edited p f xs ≡ xs) → (if b then f x ++ xs else x ∷ edited p f xs) ≡ x ∷ xs
  edited_by_test f x xs true h rest = cc
  edited_by_test f x xs false h rest = ap (λ (ys : List A). x ∷ ys) (rest h)

  pub edited_none : (f : A → List A) (xs : List A) → first p xs ≡ None → edited p f xs ≡ xs
  edited_none f [] h = refl
  edited_none f (x ∷ xs) h = edited_by_test f x xs (p x) h (edited_none f xs)

module _ {A : Type 0} (P Q : A → Type 0) (weaker : (x : A) → P x → Q x) where
  pub all_weaker : (xs : List A) → AllByRecursion P xs → AllByRecursion Q xs
  all_weaker [] h = tt
  all_weaker (x ∷ xs) h = (weaker x h.0, all_weaker xs h.1)

all_append : {A : Type 0} (P : A → Type 0) (xs ys : List A) → AllByRecursion P xs → AllByRecursion P ys → AllByRecursion P (xs ++ ys)
all_append P [] ys h k = k
all_append P (x ∷ xs) ys h k = (h.0, all_append P xs ys h.1 k)

pub all_push : {A : Type 0} (P : A → Type 0) (xs : List A) (y : A) → AllByRecursion P xs → P y → AllByRecursion P (xs ++ y ∷ [])
all_push P xs y h k = all_append P xs (y ∷ []) h (k, tt)

pub ascends_push : {A : Type 0} (R : A → A → Type 0) (xs : List A) (y : A) → AscendsBy R xs → AllByRecursion (λ x. R x y) xs → AscendsBy R (xs ++ y ∷ [])
ascends_push R [] y h k = (tt, tt)
ascends_push R (x ∷ xs) y h k = (all_push (R x) xs y h.0 k.0, ascends_push R xs y h.1 k.1)

all_edited_by_test : {A : Type 0} (P : A → Type 0) (f : A → List A) (x : A) (xs ys : List A) (b : Bool) → (P x → AllByRecursion P (f x)) → P x → AllByRecursion P xs → AllByRecursion P ys → AllByRecursion P (if b then f x ++ xs else x ∷ ys)
all_edited_by_test P f x xs ys true each h k l = all_append P (f x) xs (each h) k
all_edited_by_test P f x xs ys false each h k l = (h, l)

-- what holds of each item holds of each after an edit that keeps it
pub all_edited : {A : Type 0} (P : A → Type 0) (p : A → Bool) (f : A → List A) → ((x : A) → P x → AllByRecursion P (f x)) → (xs : List A) → AllByRecursion P xs → AllByRecursion P (edited p f xs)
all_edited P p f each [] h = tt
all_edited P p f each (x ∷ xs) h = all_edited_by_test P f x xs (edited p f xs) (p x) (each x) h.0 h.1 (all_edited P p f each xs h.1)

-- an item stands in the order where the other stood
pub record IsLike {A : Type 0} (R : A → A → Type 0) (x y : A) : Type 0 where
  pub left : (z : A) → R x z → R y z
  pub right : (z : A) → R z x → R z y

-- an item is dropped, or made into one that stands where it stood
abbrev pub Narrows : {A : Type 0} → (A → A → Type 0) → A → List A → Type 0
Narrows R x [] = Unit {0}
Narrows R x (y ∷ []) = IsLike R x y
Narrows R x (y ∷ (z ∷ zs)) = ⊥

narrowed_all : {A : Type 0} (R : A → A → Type 0) (w x : A) (ys : List A) → Narrows R x ys → R w x → AllByRecursion (R w) ys
narrowed_all R w x [] n h = tt
narrowed_all R w x (y ∷ []) n h = (n.right w h, tt)
narrowed_all R w x (y ∷ (z ∷ zs)) n h = absurd n

narrowed_front : {A : Type 0} (R : A → A → Type 0) (x : A) (ys xs : List A) → Narrows R x ys → AllByRecursion (R x) xs → AscendsBy R xs → AscendsBy R (ys ++ xs)
narrowed_front R x [] xs n h k = k
narrowed_front R x (y ∷ []) xs n h k = (all_weaker (R x) (R y) n.left xs h, k)
narrowed_front R x (y ∷ (z ∷ zs)) xs n h k = absurd n

ascends_by_test : {A : Type 0} (R : A → A → Type 0) (f : A → List A) (x : A) (xs ys : List A) (b : Bool) → Narrows R x (f x) → AllByRecursion (R x) xs → AscendsBy R xs → AllByRecursion (R x) ys → AscendsBy R ys → AscendsBy R (if b then f x ++ xs else x ∷ ys)
ascends_by_test R f x xs ys true n h k l m = narrowed_front R x (f x) xs n h k
ascends_by_test R f x xs ys false n h k l m = (l, m)

pub ascends_edited : {A : Type 0} (R : A → A → Type 0) (p : A → Bool) (f : A → List A) → ((x : A) → Narrows R x (f x)) → (xs : List A) → AscendsBy R xs → AscendsBy R (edited p f xs)
ascends_edited R p f n [] h = tt
ascends_edited R p f n (x ∷ xs) h = ascends_by_test R f x xs (edited p f xs) (p x) (n x) h.0 h.1 (all_edited (R x) p f (λ y r. narrowed_all R x y (f y) (n y) r) xs h.0) (ascends_edited R p f n xs h.1)

narrowed_length : {A : Type 0} (R : A → A → Type 0) (x : A) (ys xs : List A) → Narrows R x ys → length (ys ++ xs) ≤ suc (length xs)
narrowed_length R x [] xs n = omega arith
narrowed_length R x (y ∷ []) xs n = omega arith
narrowed_length R x (y ∷ (z ∷ zs)) xs n = absurd n

length_by_test : {A : Type 0} (R : A → A → Type 0) (f : A → List A) (x : A) (xs ys : List A) (b : Bool) → Narrows R x (f x) → length ys ≤ length xs → length (if b then f x ++ xs else x ∷ ys) ≤ suc (length xs)
length_by_test R f x xs ys true n h = narrowed_length R x (f x) xs n
length_by_test R f x xs ys false n h = omega arith

pub length_edited : {A : Type 0} (R : A → A → Type 0) (p : A → Bool) (f : A → List A) → ((x : A) → Narrows R x (f x)) → (xs : List A) → length (edited p f xs) ≤ length xs
length_edited R p f n [] = omega arith
length_edited R p f n (x ∷ xs) = length_by_test R f x xs (edited p f xs) (p x) (n x) (length_edited R p f n xs)
