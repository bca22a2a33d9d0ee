-- A number in a word.
use Rattle.std.specs.Prelude.{ℕ, ◌+◌, ◌-◌, ◌*◌, ◌^◌, ◌&&◌, Bool, nat_le, nat_lt, if◌then◌else◌, List, [], ◌∷◌, length, Option, None, Some}

abbrev pub is_digit : ℕ → Bool
is_digit d = nat_le 48 d && nat_le d 57

-- the number that digits go on to spell, where it is below 2^64
abbrev pub number_from : ℕ → List ℕ → Option ℕ
number_from n [] = Some n
number_from n (d ∷ ds) = if is_digit d && nat_lt (n * 10 + (d - 48)) (2 ^ 64) then number_from (n * 10 + (d - 48)) ds else None

-- 1 to 20 digits
abbrev pub number_of : List ℕ → Option ℕ
number_of text = if nat_le 1 (length text) && nat_le (length text) 20 then number_from 0 text else None
