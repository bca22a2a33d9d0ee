-- The item of a list that is meant, the list with it changed, and lists in order.
use Rattle.std.specs.Prelude.{Bool, if◌then◌else◌, List, [], ◌∷◌, ◌++◌, Option, Some, None}
use Rattle.std.specs.List.{AllByRecursion}

-- the first item that passes
abbrev pub first : {A : Type 0} → (A → Bool) → List A → Option A
first p [] = None
first p (x ∷ xs) = if p x then Some x else first p xs

-- the list with the first item that passes made into these
abbrev pub edited : {A : Type 0} → (A → Bool) → (A → List A) → List A → List A
edited p f [] = []
edited p f (x ∷ xs) = if p x then f x ++ xs else x ∷ edited p f xs

-- each item is before all that follow
abbrev pub AscendsBy : {A : Type 0} → (A → A → Type 0) → List A → Type 0
AscendsBy R [] = Unit {0}
AscendsBy R (x ∷ xs) = AllByRecursion (R x) xs × AscendsBy R xs
