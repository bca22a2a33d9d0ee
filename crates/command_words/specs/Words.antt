-- A word of a command line that is written so.
use Rattle.std.specs.Prelude.{ℕ, Bool, nat_eq, List}
use Rattle.std.specs.Cmp.Lexicographic.{pointwise}

abbrev pub is_word : List ℕ → List ℕ → Bool
is_word = pointwise nat_eq
