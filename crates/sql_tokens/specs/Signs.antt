-- Signs. Of two that begin alike the longer is taken, and "--" is no sign but begins a comment.
use Rattle.std.specs.Prelude.{ℕ, ◌&&◌, ◌||◌, ◌==◌, ◌≡◌, Bool, if◌then◌else◌, List, [], ◌∷◌, Option, Some, None, is_some}
use Rattle.sql_tokens.specs.declared.sign.Sign.{Sign}
use Rattle.sql_tokens.specs.declared.sign.Sign.TheVariants as s
use Rattle.sql_tokens.specs.Classes.{Stops}

abbrev pub sign_of_one : ℕ → Option Sign
sign_of_one c =
    if c == 40 then Some s.Open else (if c == 41 then Some s.Close else (if c == 44 then Some s.Comma else (if c == 59 then Some s.Semicolon else (if c == 46 then Some s.Dot else (if c == 42 then Some s.Star else (if c == 61 then Some s.Equal else (if c == 60 then Some s.Less else (if c == 62 then Some s.Greater else (if c == 43 then Some s.Plus else (if c == 45 then Some s.Minus else None))))))))))

abbrev pub sign_of_two : ℕ → ℕ → Option Sign
sign_of_two c d =
    if (c == 60) && (d == 62) then Some s.NotEqual else (if (c == 33) && (d == 61) then Some s.NotEqual else (if (c == 60) && (d == 61) then Some s.AtMost else (if (c == 62) && (d == 61) then Some s.AtLeast else None)))

-- whether two bytes belong together: "--", "/*", or a sign
abbrev pub joins : ℕ → ℕ → Bool
joins c d = is_some (sign_of_two c d) || (((c == 45) && (d == 45)) || ((c == 47) && (d == 42)))

-- the piece is the sign, before the rest
pub data IsSign (piece : List ℕ) (sign : Sign) (rest : List ℕ) : Type 0 where
  one : (c : ℕ) → piece ≡ c ∷ [] → sign_of_one c ≡ Some sign → Stops (joins c) rest → IsSign piece sign rest
  two : (c d : ℕ) → piece ≡ c ∷ d ∷ [] → sign_of_two c d ≡ Some sign → IsSign piece sign rest
