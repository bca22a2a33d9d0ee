-- A text and its tokens.
use Rattle.std.specs.Prelude.{ℕ, ◌+◌, ◌≡◌, List, [], ◌∷◌, ◌++◌, length, Option, Some, None}
use Rattle.sql_tokens.specs.declared.token.Token.{Token}
use Rattle.sql_tokens.specs.declared.token.Placed.{Placed}
use Rattle.sql_tokens.specs.Tokens.{IsPiece}

-- with the token, where there is one
abbrev pub placed : ℕ → Option Token → List Placed → List Placed
placed at None tokens = tokens
placed at (Some token) tokens = record { token = token; place = at } ∷ tokens

-- no token begins the text, and nothing that separates tokens
abbrev pub BeginsNone : List ℕ → Type 0
BeginsNone text = (piece rest : List ℕ) (what : Option Token) → text ≡ piece ++ rest → IsPiece piece what rest → ⊥

-- the text from a place on has these tokens, up to its end or up to the first bytes that are no token, which begin at the fault's place
pub data Lexes : ℕ → List ℕ → List Placed → Option ℕ → Type 0 where
  end : (at : ℕ) → Lexes at [] [] None
  piece : (at : ℕ) (bytes rest : List ℕ) (what : Option Token) (tokens : List Placed) (fault : Option ℕ)
      → IsPiece bytes what rest → Lexes (at + length bytes) rest tokens fault → Lexes at (bytes ++ rest) (placed at what tokens) fault
  fault : (at c : ℕ) (rest : List ℕ) → BeginsNone (c ∷ rest) → Lexes at (c ∷ rest) [] (Some at)

-- tokens were put behind those that stood
abbrev pub StandsBehind : List Placed → List Placed → Type 0
StandsBehind old new = (more : List Placed) × (new ≡ old ++ more)

-- behind those that stood are the tokens of a text from a place on, with its fault
pub record LexesOn (at : ℕ) (text : List ℕ) (old new : List Placed) (fault : Option ℕ) : Type 0 where
  pub more : List Placed
  pub behind : new ≡ old ++ more
  pub lexes : Lexes at text more fault
