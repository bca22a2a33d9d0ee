-- What reading the front of a text does.
use Rattle.std.specs.Prelude.{ℕ, ◌≡◌, nat_eq, Bool, true, false, List, [], ◌∷◌, ◌++◌, Option, Some, None}
use Rattle.sql_tokens.specs.declared.cursor.Front.{Front}
use Rattle.sql_tokens.specs.declared.cursor.Front.TheVariants as front
use Rattle.sql_tokens.specs.declared.token.Token.{Token}
use Rattle.sql_tokens.specs.declared.token.Token.TheVariants as t
use Rattle.sql_tokens.specs.Classes.{Stops}
use Rattle.sql_tokens.specs.Keywords.{keyword_of}
use Rattle.sql_tokens.specs.Tokens.{IsPiece, doubled}
use Rattle.sql_tokens.specs.Lexing.{BeginsNone}

-- a piece was taken
pub record Takes (old : List ℕ) (what : Option Token) (new : List ℕ) : Type 0 where
  pub piece : List ℕ
  pub whole : old ≡ piece ++ new
  pub is : IsPiece piece what new

abbrev pub Reads : List ℕ → Front → List ℕ → Type 0
Reads old front.End new = (old ≡ []) × (new ≡ [])
Reads old front.Gap new = Takes old None new
Reads old (front.Token token) new = Takes old (Some token) new
Reads old front.Bad new = BeginsNone old

-- the token of a word in lower case
abbrev pub word_token : List ℕ → Token
word_token name = elim (keyword_of name) [ None ↦ t.Name name false | Some word ↦ t.Word word ]

-- the quote, where it is first
abbrev pub EatsQuote : ℕ → List ℕ → Bool → List ℕ → Type 0
EatsQuote quote old true new = old ≡ quote ∷ new
EatsQuote quote old false new = (new ≡ old) × Stops (nat_eq quote) old

-- a text in quotes was taken
pub record TakesQuoted (quote : ℕ) (old content new : List ℕ) : Type 0 where
  pub whole : old ≡ quote ∷ doubled quote content ++ quote ∷ new
  pub ends : Stops (nat_eq quote) new

-- no text in quotes begins here
abbrev pub IsUnclosed : ℕ → List ℕ → Type 0
IsUnclosed quote old = (content rest : List ℕ) → Stops (nat_eq quote) rest → old ≡ quote ∷ doubled quote content ++ quote ∷ rest → ⊥
