-- The holes of a pattern, and the tokens of a text in which they stand.
--
-- A hole stands among the tokens as one that no text has: a string or a name of a byte that begins no UTF-8.
use Rattle.std.specs.Prelude.{ℕ, ◌+◌, ◌-◌, ◌≡◌, true, false, List, [], ◌∷◌, ◌++◌, codes, length, drop, Option, Some, None, if◌then◌else◌, nat_eq}
use Rattle.std.specs.List.{starts_with}
use Rattle.sql_tokens.specs.declared.keyword.Keyword.TheVariants as word
use Rattle.sql_tokens.specs.declared.token.Token.{Token}
use Rattle.sql_tokens.specs.declared.token.Token.TheVariants as t
use Rattle.sql_tokens.specs.declared.token.Placed.{Placed}
use Rattle.sql_tokens.specs.Lexing.{Lexes}
use Rattle.sql_patterns.specs.declared.hole.Hole.{Hole}
use Rattle.sql_patterns.specs.declared.hole.Hole.TheVariants as hole

-- how a hole is written
abbrev pub hole_word : Hole → List ℕ
hole_word hole.Value = codes "%%VALUE%%"
hole_word hole.Column = codes "%%COLUMN%%"
hole_word hole.Where = codes "%%WHERE%%"

-- the hole with whose word a text begins
abbrev pub hole_of : List ℕ → Option Hole
hole_of text =
    if starts_with nat_eq text (hole_word hole.Value) then Some hole.Value
    else if starts_with nat_eq text (hole_word hole.Column) then Some hole.Column
    else if starts_with nat_eq text (hole_word hole.Where) then Some hole.Where
    else None

-- the string of a value hole, the name of a column hole, and the name of a where hole
abbrev pub value_mark : List ℕ
value_mark = 255 ∷ []

abbrev pub column_mark : List ℕ
column_mark = 255 ∷ []

abbrev pub where_mark : List ℕ
where_mark = 254 ∷ []

abbrev at : ℕ → Token → Placed
at place token = record { token = token; place = place }

-- the tokens that stand for a hole; those of a where hole are a condition
abbrev pub hole_tokens : ℕ → Hole → List Placed
hole_tokens place hole.Value = at place (t.Text value_mark) ∷ []
hole_tokens place hole.Column = at place (t.Name column_mark false) ∷ []
hole_tokens place hole.Where = at place (t.Name where_mark true) ∷ at place (t.Word word.Is) ∷ at place (t.Word word.Null) ∷ []

-- the text from a place on has these tokens, where each bytes that are no token are the word of a hole
pub data PatternLexes : ℕ → List ℕ → List Placed → Type 0 where
  last : (at : ℕ) (text : List ℕ) (tokens : List Placed) → Lexes at text tokens None → PatternLexes at text tokens
  segment : (at place : ℕ) (text : List ℕ) (found : Hole) (tokens more : List Placed)
      → Lexes at text tokens (Some place) → hole_of (drop (place - at) text) ≡ Some found
      → PatternLexes (place + length (hole_word found)) (drop (place - at + length (hole_word found)) text) more
      → PatternLexes at text (tokens ++ (hole_tokens place found ++ more))
