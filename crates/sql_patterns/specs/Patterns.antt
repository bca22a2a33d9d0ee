-- Which texts are patterns, and of which trees.
use Rattle.std.specs.Prelude.{ℕ, ◌≡◌, ◌≤◌, true, false, List, Option, Some, None}
use Rattle.sql_tokens.specs.declared.token.Placed.{Placed}
use Rattle.sql_tree.specs.declared.statement.Statement.{Statement}
use Rattle.sql_tree.specs.Spelling.{tokens_of}
use Rattle.sql_parser.specs.Judging.{TokensSpell}
use Rattle.sql_patterns.specs.declared.pattern.Pattern.{Pattern}
use Rattle.sql_patterns.specs.Holes.{PatternLexes}
use Rattle.sql_patterns.specs.Standing.{all_stand, are_names_plain}
use Rattle.std.specs.Prelude.{length}

-- at most 2^20 bytes with these tokens, which the grammar derives as it does those of a statement, and whose holes stand where
-- they may
pub record IsPattern (text : List ℕ) (tree : Statement) : Type 0 where
  pub short : length text ≤ 1048576
  pub placed : List Placed
  pub lexes : PatternLexes 0 text placed
  pub spells : TokensSpell (tokens_of placed) true tree
  pub stand : all_stand false false (tokens_of placed) ≡ true
  pub plain : are_names_plain tree ≡ true

-- the pattern that a text is, or that it is none
abbrev pub IsRead : List ℕ → Option Pattern → Type 0
IsRead text (Some pattern) = IsPattern text pattern.tree
IsRead text None = (tree : Statement) → IsPattern text tree → ⊥

-- the tokens of a text with holes, or that it has none
abbrev pub HasTokens : List ℕ → Option (List Placed) → Type 0
HasTokens text (Some placed) = PatternLexes 0 text placed
HasTokens text None = (placed : List Placed) → PatternLexes 0 text placed → ⊥

-- the pattern that tokens are, or that they are none
abbrev pub IsMade : List Placed → Option Pattern → Type 0
IsMade placed (Some pattern) =
    TokensSpell (tokens_of placed) true pattern.tree × (all_stand false false (tokens_of placed) ≡ true) × (are_names_plain pattern.tree ≡ true)
IsMade placed None = (tree : Statement) → TokensSpell (tokens_of placed) true tree → all_stand false false (tokens_of placed) ≡ true → are_names_plain tree ≡ true → ⊥
