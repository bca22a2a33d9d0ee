-- Which texts spell which statement: the tokens are derived, and the side conditions hold.
use Rattle.std.specs.Prelude.{ℕ, ◌≡◌, ◌≤◌, ◌⊎◌, ◌↔◌, List, [], ◌∷◌, ◌++◌, map, codes, Contains, Option, Some, None}
use Rattle.std.specs.List.{flat_map}
use Rattle.sql_tokens.specs.declared.token.Token.{Token}
use Rattle.sql_tokens.specs.declared.token.Placed.{Placed}
use Rattle.sql_tokens.specs.Lexing.{Lexes}
use Rattle.sql_tree.specs.declared.condition.Operand.{Operand}
use Rattle.sql_tree.specs.declared.condition.Operand.TheVariants as operand
use Rattle.sql_tree.specs.declared.condition.Cond as trees
use Rattle.sql_tree.specs.declared.condition.Cond.TheOpen.{Cond-F}
use Rattle.sql_tree.specs.declared.condition.Cond.TheFolds.{fold-Cond}
use Rattle.sql_tree.specs.declared.statement.SetPair.{SetPair}
use Rattle.sql_tree.specs.declared.statement.Statement.{Statement}
use Rattle.sql_tree.specs.declared.statement.Statement.TheVariants as statement
use Rattle.sql_tree.specs.Grammar.{Text, text_tokens, text_tree, Body, body_qualifiers, body_table}

-- the parameters of a statement
abbrev pub operand_parameters : Operand → List ℕ
operand_parameters (operand.Column c) = []
operand_parameters (operand.Prefix33 c) = []
operand_parameters (operand.Text s) = []
operand_parameters (operand.Number n) = []
operand_parameters operand.NullValue = []
operand_parameters (operand.Parameter n) = n ∷ []

abbrev pub cond_step : Cond-F (List ℕ) → List ℕ
cond_step (Cond-F.And all) = flat_map (λ x. x) all
cond_step (Cond-F.Or all) = flat_map (λ x. x) all
cond_step (Cond-F.Not a) = a
cond_step (Cond-F.Compare left op right) = operand_parameters left ++ operand_parameters right
cond_step (Cond-F.Within left list) = operand_parameters left ++ flat_map operand_parameters list
cond_step (Cond-F.Null column) = []

abbrev pub cond_parameters : trees.Cond → List ℕ
cond_parameters = fold-Cond (List ℕ) cond_step

abbrev pub option_parameters : Option trees.Cond → List ℕ
option_parameters cond = elim cond [ None ↦ [] | Some c ↦ cond_parameters c ]

abbrev pub parameters : Statement → List ℕ
parameters statement.Empty = []
parameters (statement.Set name value) = []
parameters (statement.Select table items cond order limit offset) = option_parameters cond
parameters (statement.Insert table columns rows) = flat_map (flat_map operand_parameters) rows
parameters (statement.Update table sets cond) = flat_map (λ (p : SetPair). operand_parameters p.value) sets ++ option_parameters cond
parameters (statement.Delete table cond) = option_parameters cond

-- they are 1 to some number, without a gap
abbrev pub IsGapless : List ℕ → Type 0
IsGapless used = (last : ℕ) × ((n : ℕ) → Contains used n ↔ ((1 ≤ n) × (n ≤ last)))

-- the name that SET sets
abbrev pub IsSettable : Statement → Type 0
IsSettable (statement.Set name value) = (name ≡ codes "application_name") ⊎ (name ≡ codes "extra_float_digits")
IsSettable _ = Unit {0}

-- a name before a column is the table's
abbrev pub IsQualified : Option Body → Type 0
IsQualified None = Unit {0}
IsQualified (Some b) = (q : List ℕ) → Contains (body_qualifiers b) q → q ≡ body_table b

pub record Spells (tokens : List Token) (tree : Statement) : Type 0 where
  pub by : Text
  pub derives : tokens ≡ text_tokens by
  pub is : tree ≡ text_tree by
  pub qualified : IsQualified by.body
  pub gapless : IsGapless (parameters tree)
  pub settable : IsSettable tree

abbrev pub tokens_of : List Placed → List Token
tokens_of placed = map (λ (p : Placed). p.token) placed

pub record TextSpells (text : List ℕ) (tree : Statement) : Type 0 where
  pub placed : List Placed
  pub lexes : Lexes 0 text placed None
  pub spells : Spells (tokens_of placed) tree
