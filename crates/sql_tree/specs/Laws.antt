-- What the canonical text of a statement is for.
use Rattle.std.specs.Prelude.{ℕ, ◌≡◌, true, List, []}
use Rattle.std.specs.List.{AllByRecursion}
use Rattle.sql_tokens.specs.declared.token.Token.{Token}
use Rattle.sql_tokens.specs.Tokens.{IsToken}
use Rattle.sql_tree.specs.declared.statement.Statement.{Statement}
use Rattle.sql_tree.specs.Shapes.{printed}
use Rattle.sql_tree.specs.Canonical.{canon}
use Rattle.sql_tree.specs.Spelling.{Spells, TextSpells, IsGapless, IsSettable, parameters}
use Rattle.sql_tree.specs.WellFormed.{is_grammatical}

-- some text is the token
pub record IsPossible (token : Token) : Type 0 where
  pub piece : List ℕ
  pub is : IsToken piece token []

-- a statement that has a text: its shape is the grammar's, its parameters have no gap, what it sets can be set, and each name,
-- number and string in it can stand in a text
pub record IsStatement (tree : Statement) : Type 0 where
  pub grammatical : is_grammatical tree ≡ true
  pub gapless : IsGapless (parameters tree)
  pub settable : IsSettable tree
  pub possible : AllByRecursion IsPossible (printed tree)

abbrev pub CanonicalTextSpells : Type 0
CanonicalTextSpells = (tree : Statement) → IsStatement tree → TextSpells (canon tree) tree

abbrev pub CanonicalTokensSpell : Type 0
CanonicalTokensSpell = (tree : Statement) → IsStatement tree → Spells (printed tree) tree
