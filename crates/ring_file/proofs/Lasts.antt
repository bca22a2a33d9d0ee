-- The last item of a list.
use Rattle.std.proofs.Common.{◌≡◌, ◌-◌, List, [], ◌∷◌, ◌++◌, length, Some, refl, ap, ◌∙◌, arith}
use Rattle.std.specs.List.{slice_get}
use Rattle.ring_file.specs.Reading.{last_of}

last_in : {A : Type 0} (x : A) (xs : List A) → last_of (x ∷ xs) ≡ slice_get (x ∷ xs) (length xs)
last_in x [] = refl
last_in x (y ∷ ys) = last_in y ys

pub last_at : {A : Type 0} (xs : List A) → last_of xs ≡ slice_get xs (length xs - 1)
last_at [] = refl
last_at (x ∷ xs) = last_in x xs ∙ ap (slice_get (x ∷ xs)) (let e : length xs ≡ length (x ∷ xs) - 1 = omega arith in e)

pub last_push : {A : Type 0} (xs : List A) (y : A) → last_of (xs ++ y ∷ []) ≡ Some y
last_push [] y = refl
last_push (x ∷ []) y = refl
last_push (x ∷ (z ∷ zs)) y = last_push (z ∷ zs) y
