-- The first of a list that passes or that gives one, as a loop comes to it.
use Rattle.std.proofs.Common.{◌≡◌, ◌∙◌, ap, sym, refl, ℕ, ◌+◌, ◌<◌, ◌≤◌, Bool, true, false, cond, List, [], ◌∷◌, ◌++◌, map, length, take, drop, reverse, get_or, add-one, drop-cons, Option, Some, None}
use Rattle.std.specs.Prelude.{◌||◌, option_map}
use Rattle.std.specs.Option.{is_some}
use Rattle.std.specs.List.{list_any, flat_map}
use Rattle.std.proofs.lemmas.List.{take_more, drop_all, reverse-append, map-append}
use Rattle.std.proofs.lemmas.List.Folds.{list_any-append}
use Rattle.table_machine.specs.Columns.{same}
use Rattle.table_machine.specs.Carry.{concat}
use Rattle.table_machine.specs.Faults.{first, first_of, first_again, or_else}

pub drop_more : {X : Type 0} (xs : List X) (i : ℕ) (x : X) → i < length xs → x ≡ get_or xs i x → drop i xs ≡ x ∷ drop (i + 1) xs
drop_more xs i x h is = rw add-one (drop-cons xs i x h) ∙ ap (λ z. z ∷ drop (i + 1) xs) (sym is)

-- ---- or_else

or_some : {X : Type 0} (a b : Option X) → is_some a ≡ true → or_else a b ≡ a
or_some None b h = cc
or_some (Some x) b h = refl

or_none : {X : Type 0} (a b : Option X) → is_some a ≡ false → or_else a b ≡ b
or_none None b h = refl
or_none (Some x) b h = cc

or_nothing : {X : Type 0} (a : Option X) → or_else a None ≡ a
or_nothing None = refl
or_nothing (Some x) = refl

or_assoc : {X : Type 0} (a b c : Option X) → or_else (or_else a b) c ≡ or_else a (or_else b c)
or_assoc None b c = refl
or_assoc (Some x) b c = refl

some_map : {X Y : Type 0} (v : X → Y) (o : Option X) → is_some (option_map v o) ≡ is_some o
some_map v None = refl
some_map v (Some x) = refl

-- ---- the first of two lists, and of many

pub first-append : {X : Type 0} (p : X → Bool) (xs ys : List X) → first p (xs ++ ys) ≡ or_else (first p xs) (first p ys)
first-append p [] ys = refl
first-append p (x ∷ xs) ys =
    elim (p x) as (λ b. cond b (Some x) (first p (xs ++ ys)) ≡ or_else (cond b (Some x) (first p xs)) (first p ys)) [ true ↦ refl | false ↦ first-append p xs ys ]

pub two : {X : Type 0} (p : X → Bool) (xs ys : List X) (a b : Option X) → a ≡ first p xs → b ≡ first p ys → or_else a b ≡ first p (xs ++ ys)
two p xs ys a b h k = ap (λ z. or_else z b) h ∙ ap (or_else (first p xs)) k ∙ sym (first-append p xs ys)

pub first-flat_map : {X Y : Type 0} (p : X → Bool) (f : Y → List X) (ys : List Y) → first_of (λ y. first p (f y)) ys ≡ first p (flat_map f ys)
first-flat_map p f [] = refl
first-flat_map p f (y ∷ ys) = ap (or_else (first p (f y))) (first-flat_map p f ys) ∙ sym (first-append p (f y) (flat_map f ys))

pub first-concat : {X Y : Type 0} (p : X → Bool) (f : Y → List X) (ys : List Y) → first_of (λ y. first p (f y)) ys ≡ first p (concat (map f ys))
first-concat p f [] = refl
first-concat p f (y ∷ ys) = ap (or_else (first p (f y))) (first-concat p f ys) ∙ sym (first-append p (f y) (concat (map f ys)))

pub first_of-append : {X Y : Type 0} (give : X → Option Y) (xs ys : List X) → first_of give (xs ++ ys) ≡ or_else (first_of give xs) (first_of give ys)
first_of-append give [] ys = refl
first_of-append give (x ∷ xs) ys = ap (or_else (give x)) (first_of-append give xs ys) ∙ sym (or_assoc (give x) (first_of give xs) (first_of give ys))

pub first_of-flat_map : {X Y Z : Type 0} (give : X → Option Y) (f : Z → List X) (zs : List Z) → first_of (λ z. first_of give (f z)) zs ≡ first_of give (flat_map f zs)
first_of-flat_map give f [] = refl
first_of-flat_map give f (z ∷ zs) = ap (or_else (first_of give (f z))) (first_of-flat_map give f zs) ∙ sym (first_of-append give (f z) (flat_map f zs))

pub first_of-concat : {X Y Z : Type 0} (give : X → Option Y) (f : Z → List X) (zs : List Z) → first_of (λ z. first_of give (f z)) zs ≡ first_of give (concat (map f zs))
first_of-concat give f [] = refl
first_of-concat give f (z ∷ zs) = ap (or_else (first_of give (f z))) (first_of-concat give f zs) ∙ sym (first_of-append give (f z) (concat (map f zs)))

pub first_of-map : {X Y Z : Type 0} (give : X → Option Y) (f : Z → X) (zs : List Z) → first_of (λ z. give (f z)) zs ≡ first_of give (map f zs)
first_of-map give f [] = refl
first_of-map give f (z ∷ zs) = ap (or_else (give (f z))) (first_of-map give f zs)

-- ---- a loop

module _ {X Y : Type 0} (give : X → Option Y) (xs : List X) (i : ℕ) where
  here : (x : X) → i < length xs → x ≡ get_or xs i x → first_of give (drop i xs) ≡ first_of give xs → or_else (give x) (first_of give (drop (i + 1) xs)) ≡ first_of give xs
  here x h is inv = sym (ap (first_of give) (drop_more xs i x h is)) ∙ inv

  pub found : {Z : Type 0} (x : X) → i < length xs → x ≡ get_or xs i x → first_of give (drop i xs) ≡ first_of give xs
      → (v : Z → Y) (o : Option Z) → option_map v o ≡ give x → is_some o ≡ true → option_map v o ≡ first_of give xs
  found x h is inv v o e some =
      sym (or_some (option_map v o) (first_of give (drop (i + 1) xs)) (some_map v o ∙ some)) ∙ ap (λ z. or_else z (first_of give (drop (i + 1) xs))) e ∙ here x h is inv

  pub gives : (x : X) (y : Y) → i < length xs → x ≡ get_or xs i x → first_of give (drop i xs) ≡ first_of give xs → give x ≡ Some y → first_of give xs ≡ Some y
  gives x y h is inv e = sym (here x h is inv) ∙ ap (λ z. or_else z (first_of give (drop (i + 1) xs))) e

  pub goes : (x : X) → i < length xs → x ≡ get_or xs i x → first_of give (drop i xs) ≡ first_of give xs → give x ≡ None → first_of give (drop (i + 1) xs) ≡ first_of give xs
  goes x h is inv e = sym (ap (λ z. or_else z (first_of give (drop (i + 1) xs))) e) ∙ here x h is inv

  pub ends : length xs ≤ i → first_of give (drop i xs) ≡ first_of give xs → None ≡ first_of give xs
  ends h inv = sym (ap (first_of give) (drop_all i xs h)) ∙ inv

-- ---- a name that stands twice

or_comm : (a b : Bool) → (a || b) ≡ (b || a)
or_comm true true = refl
or_comm true false = refl
or_comm false true = refl
or_comm false false = refl

or_false : (a : Bool) → (a || false) ≡ a
or_false true = refl
or_false false = refl

pub any-reverse : {X : Type 0} (p : X → Bool) (xs : List X) → list_any p (reverse xs) ≡ list_any p xs
any-reverse p [] = refl
any-reverse p (x ∷ xs) =
    ap (list_any p) (reverse-append (x ∷ []) xs) ∙ list_any-append p (reverse xs) (x ∷ []) ∙ ap (λ b. b || (p x || false)) (any-reverse p xs)
    ∙ ap (λ b. list_any p xs || b) (or_false (p x)) ∙ or_comm (list_any p xs) (p x)

module _ {X : Type 0} (name : X → List ℕ) (xs : List X) (i : ℕ) (x : X) (h : i < length xs) (is : x ≡ get_or xs i x) where
  abbrev before : List (List ℕ)
  before = map name (take i xs)

  at : first_again (reverse before) (map name (drop i xs)) ≡ cond (list_any (same (name x)) before) (Some (name x)) (first_again (name x ∷ reverse before) (map name (drop (i + 1) xs)))
  at = ap (λ ys. first_again (reverse before) (map name ys)) (drop_more xs i x h is)
      ∙ ap (λ b. cond b (Some (name x)) (first_again (name x ∷ reverse before) (map name (drop (i + 1) xs)))) (any-reverse (same (name x)) before)

  one_more : name x ∷ reverse before ≡ reverse (map name (take (i + 1) xs))
  one_more = sym (ap (λ ys. reverse (map name ys)) (take_more xs i x h) ∙ ap reverse (map-append name (take i xs) (get_or xs i x ∷ []))
      ∙ reverse-append before (name (get_or xs i x) ∷ []) ∙ ap (λ y. name y ∷ reverse before) (sym is))

  pub again : first_again (reverse before) (map name (drop i xs)) ≡ first_again [] (map name xs) → list_any (same (name x)) before ≡ true
      → Some (name x) ≡ first_again [] (map name xs)
  again inv e = sym (at ∙ ap (λ b. cond b (Some (name x)) (first_again (name x ∷ reverse before) (map name (drop (i + 1) xs)))) e) ∙ inv

  pub not_again : first_again (reverse before) (map name (drop i xs)) ≡ first_again [] (map name xs) → list_any (same (name x)) before ≡ false
      → first_again (reverse (map name (take (i + 1) xs))) (map name (drop (i + 1) xs)) ≡ first_again [] (map name xs)
  not_again inv e =
      ap (λ ys. first_again ys (map name (drop (i + 1) xs))) (sym one_more)
      ∙ sym (at ∙ ap (λ b. cond b (Some (name x)) (first_again (name x ∷ reverse before) (map name (drop (i + 1) xs)))) e) ∙ inv
