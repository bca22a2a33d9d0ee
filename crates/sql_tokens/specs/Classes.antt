-- The bytes of a text, by what they begin. Space, tab, newline, carriage return and form feed separate tokens.
use Rattle.std.specs.Prelude.{ℕ, ◌+◌, ◌-◌, ◌*◌, nat_le, nat_eq, ◌&&◌, ◌||◌, ◌==◌, ◌≡◌, Bool, true, false, if◌then◌else◌, List, [], ◌∷◌}
use Rattle.std.specs.List.{list_any}
use Rattle.sql_tokens.specs.declared.class.Class.{Class}
use Rattle.sql_tokens.specs.declared.class.Class.TheVariants as class

abbrev pub is_space : ℕ → Bool
is_space c = list_any (nat_eq c) (32 ∷ 9 ∷ 10 ∷ 13 ∷ 12 ∷ [])

abbrev pub is_digit : ℕ → Bool
is_digit c = nat_le 48 c && nat_le c 57

abbrev pub is_upper : ℕ → Bool
is_upper c = nat_le 65 c && nat_le c 90

abbrev pub begins_word : ℕ → Bool
begins_word c = is_upper c || (nat_le 97 c && nat_le c 122) || (c == 95)

abbrev pub goes_on_word : ℕ → Bool
goes_on_word c = begins_word c || is_digit c || (c == 36)

-- an unquoted word folds to lower case
abbrev pub folded : ℕ → ℕ
folded c = if is_upper c then c + 32 else c

-- the number that digits spell
abbrev pub number_from : ℕ → List ℕ → ℕ
number_from n [] = n
number_from n (d ∷ ds) = number_from (n * 10 + (d - 48)) ds

abbrev pub class_of : ℕ → Class
class_of c =
    if is_space c then class.Space else (if begins_word c then class.Word else (if is_digit c then class.Digit else (if c == 34 then class.Name else (if c == 39 then class.Text else (if c == 36 then class.Parameter else class.Mark)))))

-- nothing, or a byte that fails the test
abbrev pub Stops : (ℕ → Bool) → List ℕ → Type 0
Stops test [] = Unit {0}
Stops test (c ∷ rest) = test c ≡ false

-- a byte that passes the test, and whatever follows
abbrev pub Starts : (ℕ → Bool) → List ℕ → Type 0
Starts test [] = ⊥
Starts test (c ∷ rest) = test c ≡ true
