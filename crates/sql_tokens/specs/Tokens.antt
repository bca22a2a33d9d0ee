-- Tokens. Words and digits are read as far as they go; a quote inside quotes is written twice; a name has 1 to 63 bytes.
use Rattle.std.specs.Prelude.{ℕ, ◌≡◌, ◌≤◌, ◌<◌, ◌^◌, nat_eq, ◌==◌, true, false, if◌then◌else◌, List, [], ◌∷◌, ◌++◌, map, length, Option, Some, None}
use Rattle.std.specs.List.{list_all, flat_map}
use Rattle.sql_tokens.specs.declared.token.Token.{Token}
use Rattle.sql_tokens.specs.declared.token.Token.TheVariants as t
use Rattle.sql_tokens.specs.Classes.{Stops, Starts, is_digit, begins_word, goes_on_word, folded, number_from}
use Rattle.sql_tokens.specs.Keywords.{keyword_of}
use Rattle.sql_tokens.specs.Signs.{IsSign}
use Rattle.sql_tokens.specs.Comments.{IsText, IsGap}

-- each quote inside is written twice
abbrev pub doubled : ℕ → List ℕ → List ℕ
doubled quote text = flat_map (λ c. if c == quote then quote ∷ quote ∷ [] else c ∷ []) text

pub record IsWord (piece name rest : List ℕ) : Type 0 where
  pub starts : Starts begins_word piece
  pub on : list_all goes_on_word piece ≡ true
  pub ends : Stops goes_on_word rest
  pub is : name ≡ map folded piece
  pub short : length piece ≤ 63

pub record IsNumber (digits : List ℕ) (number : ℕ) (rest : List ℕ) : Type 0 where
  pub starts : Starts is_digit digits
  pub on : list_all is_digit digits ≡ true
  pub ends : Stops is_digit rest
  pub is : number ≡ number_from 0 digits

pub record IsQuoted (quote : ℕ) (piece content rest : List ℕ) : Type 0 where
  pub written : piece ≡ quote ∷ doubled quote content ++ quote ∷ []
  pub ends : Stops (nat_eq quote) rest
  pub text : IsText content

-- a number behind "$", of at most 20,480 and without leading zeros
pub record IsParameter (piece : List ℕ) (number : ℕ) (rest : List ℕ) : Type 0 where
  pub digits : List ℕ
  pub written : piece ≡ 36 ∷ digits
  pub spells : IsNumber digits number rest
  pub leads : Stops (nat_eq 48) digits
  pub most : number ≤ 20480

-- the piece is the token, before the rest
abbrev pub IsToken : List ℕ → Token → List ℕ → Type 0
IsToken piece (t.Word word) rest = (name : List ℕ) × IsWord piece name rest × (keyword_of name ≡ Some word)
IsToken piece (t.Name name false) rest = IsWord piece name rest × (keyword_of name ≡ None)
IsToken piece (t.Name name true) rest = IsQuoted 34 piece name rest × (1 ≤ length name) × (length name ≤ 63)
IsToken piece (t.Number number) rest = IsNumber piece number rest × (number < 2 ^ 127)
IsToken piece (t.Text text) rest = IsQuoted 39 piece text rest
IsToken piece (t.Parameter number) rest = IsParameter piece number rest
IsToken piece (t.Sign sign) rest = IsSign piece sign rest

-- the piece is a token, or separates tokens
abbrev pub IsPiece : List ℕ → Option Token → List ℕ → Type 0
IsPiece piece None rest = IsGap piece rest
IsPiece piece (Some token) rest = IsToken piece token rest
