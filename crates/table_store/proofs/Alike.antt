-- Functions that agree filter and sort alike.
use Rattle.std.proofs.Common.{◌≡◌, Bool, false, List, [], ◌∷◌, map, refl, ap, ◌∙◌}
use Rattle.std.specs.Prelude.{filter}
use Rattle.table_machine.specs.Sort.{put, stable_sort}

pub filter_alike : {X : Type 0} (p q : X → Bool) → ((x : X) → p x ≡ q x) → (xs : List X) → filter p xs ≡ filter q xs
filter_alike p q e [] = refl
filter_alike p q e (x ∷ xs) = rw (e x, filter_alike p q e xs) refl

pub map_alike : {X Y : Type 0} (f g : X → Y) → ((x : X) → f x ≡ g x) → (xs : List X) → map f xs ≡ map g xs
map_alike f g e [] = refl
map_alike f g e (x ∷ xs) = rw (e x, map_alike f g e xs) refl

put_alike : {X : Type 0} (p q : X → X → Bool) → ((x y : X) → p x y ≡ q x y) → (x : X) (ys : List X) → put p x ys ≡ put q x ys
put_alike p q e x [] = refl
put_alike p q e x (y ∷ ys) = rw (e y x, put_alike p q e x ys) refl

pub sort_alike : {X : Type 0} (p q : X → X → Bool) → ((x y : X) → p x y ≡ q x y) → (xs : List X) → stable_sort p xs ≡ stable_sort q xs
sort_alike p q e [] = refl
sort_alike p q e (x ∷ xs) = ap (put p x) (sort_alike p q e xs) ∙ put_alike p q e x (stable_sort q xs)

-- what is below nothing stays where it is
put_first : {X : Type 0} (p : X → X → Bool) → ((x y : X) → p x y ≡ false) → (x : X) (ys : List X) → put p x ys ≡ x ∷ ys
put_first p e x [] = refl
put_first p e x (y ∷ ys) = rw (e y x) refl

pub sort_none : {X : Type 0} (p : X → X → Bool) → ((x y : X) → p x y ≡ false) → (xs : List X) → stable_sort p xs ≡ xs
sort_none p e [] = refl
sort_none p e (x ∷ xs) = ap (put p x) (sort_none p e xs) ∙ put_first p e x xs

pub map_map : {X Y Z : Type 0} (f : X → Y) (g : Y → Z) (xs : List X) → map g (map f xs) ≡ map (λ x. g (f x)) xs
map_map f g [] = refl
map_map f g (x ∷ xs) = ap (λ w. g (f x) ∷ w) (map_map f g xs)
