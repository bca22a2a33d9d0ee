-- What parsing and printing are for.
use Rattle.std.specs.Prelude.{ℕ, ◌≡◌, ◌≤◌, List, length, Ok}
use Rattle.sql_tree.specs.declared.statement.Statement.{Statement}
use Rattle.sql_tree.specs.Spelling.{TextSpells}
use Rattle.sql_tree.specs.Canonical.{canon}
use Rattle.sql_tree.specs.Depths.{statement_depth}
use Rattle.sql_tree.specs.Laws.{IsStatement}
use Rattle.sql_outcomes.specs.Outcome.{Outcome, IsOutcome}

-- a text has one outcome at most, under a limit
abbrev pub OneOutcome : Type 0
OneOutcome = (text : List ℕ) (limit : ℕ) (a b : Outcome) → IsOutcome text limit a → IsOutcome text limit b → a ≡ b

-- and spells one statement at most
abbrev pub OneStatement : Type 0
OneStatement = (text : List ℕ) (a b : Statement) → TextSpells text a → TextSpells text b → a ≡ b

-- the canonical text of a statement whose nodes stand at most 64 deep has that statement as its outcome, where the limit allows
abbrev pub CanonicalTextIsParsed : Type 0
CanonicalTextIsParsed = (tree : Statement) → IsStatement tree → statement_depth tree ≤ 64 → (limit : ℕ) → length (canon tree) ≤ limit → IsOutcome (canon tree) limit (Ok tree)

-- what a text spells is a statement that has a text
abbrev pub SpelledIsStatement : Type 0
SpelledIsStatement = (text : List ℕ) (tree : Statement) → TextSpells text tree → IsStatement tree
