-- A list at the beginning of another.
use Rattle.std.specs.Prelude.{◌≡◌, List, ◌++◌}

abbrev pub Begins : {A : Type 0} → List A → List A → Type 0
Begins {A} xs ys = (rest : List A) × (ys ≡ xs ++ rest)
