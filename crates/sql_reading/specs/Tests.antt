-- The tree of a test, by what stands behind its first part.
use Rattle.std.specs.Prelude.{ℕ, Bool, List, Option}
use Rattle.std.proofs.Common.{◌⊎◌, inl, inr}
use Rattle.sql_tree.specs.declared.condition.Op.{Op}
use Rattle.sql_tree.specs.declared.condition.Operand.{Operand}
use Rattle.sql_tree.specs.declared.condition.Operand.TheVariants as operand
use Rattle.sql_tree.specs.declared.condition.Cond as trees
use Rattle.sql_tree.specs.declared.condition.Cond.TheVariants as tree
use Rattle.sql_tree.specs.Parts.{Spelled, Column, column_name, Value}
use Rattle.sql_tree.specs.Grammar.{Some1}
use Rattle.sql_tree.specs.Conditions.{Side, side_operand, not_tree}
use Rattle.sql_tokens.specs.declared.keyword.Keyword.TheVariants as word
use Rattle.sql_readers.specs.Readers.{Reader, both, seen_as}
use Rattle.sql_readers.specs.Productions.{behind, negated, word_reader}
use Rattle.sql_reading.specs.Made.{row_of}
use Rattle.sql_reading.specs.Cursor.{last_of}

abbrev pub compared : Operand → Op × Side → trees.Cond
compared left x = tree.Compare left x.0 (side_operand x.1)

abbrev pub listed_in : Operand → Bool × Some1 Value → trees.Cond
listed_in left x = not_tree x.0 (tree.Within left (row_of x.1))

abbrev pub tail_tree : Operand → (Op × Side) ⊎ (Bool × Some1 Value) → trees.Cond
tail_tree left (inl x) = compared left x
tail_tree left (inr x) = listed_in left x

-- IS, perhaps NOT, and NULL
abbrev pub null_tail : Reader Bool
null_tail = behind word.Is (seen_as (λ x. x.0) (both negated (word_reader word.Null)))

abbrev pub null_tree : List ℕ → Bool → trees.Cond
null_tree column negated = not_tree negated (tree.Null column)

abbrev pub column_tail_tree : List ℕ → Bool ⊎ ((Op × Side) ⊎ (Bool × Some1 Value)) → trees.Cond
column_tail_tree column (inl negated) = null_tree column negated
column_tail_tree column (inr x) = tail_tree (operand.Column column) x

abbrev pub substr_tree : Column × ((Op × Side) ⊎ (Bool × Some1 Value)) → trees.Cond
substr_tree x = tail_tree (operand.Prefix33 (column_name x.0)) x.1

abbrev pub column_test_tree : List ℕ → Option Spelled × (Bool ⊎ ((Op × Side) ⊎ (Bool × Some1 Value))) → trees.Cond
column_test_tree first x = column_tail_tree (last_of first x.0) x.1
