-- The names of what is read.
use Rattle.std.proofs.Common.{◌≡◌, ℕ, List, Bool, refl, ap, ◌∙◌, ◌⊎◌, inl, inr}
use Rattle.sql_tree.specs.declared.condition.Op.{Op}
use Rattle.sql_tree.specs.declared.condition.Operand.TheVariants as operand
use Rattle.sql_tree.specs.Grammar.{Some1}
use Rattle.sql_tree.specs.Conditions.{Side, test_tree}
use Rattle.sql_reading.specs.Tests.{tail_tree, substr_tree, column_tail_tree, column_test_tree}
use Rattle.std.specs.Prelude.{Option, Some, None, Result, Ok}
use Rattle.sql_tokens.specs.declared.token.Token.{Token}
use Rattle.sql_tree.specs.declared.condition.Cond as trees
use Rattle.sql_tree.specs.Parts.{Spelled, Column, Value, column_name}
use Rattle.sql_readers.specs.Productions.{column_of, column_tailed, led_of, substr_rest, tail, column_rest, column_tail}
use Rattle.sql_readers.specs.Readers.{both}
use Rattle.sql_readers.specs.Reads.{Reads}
use Rattle.sql_reading.specs.Gives.{Gives}
use Rattle.sql_reading.specs.declared.stop.Stop.{Stop}
use Rattle.sql_reading.proofs.Steps.{gives_then, gives_same}
use Rattle.sql_reading.specs.Cursor.{last_of}

pub last_is : (s : Spelled) (rest : Option Spelled) (first : List ℕ) → first ≡ s.name → last_of first rest ≡ column_name (column_of (s, rest))
last_is s None first e = e
last_is s (Some n) first e = refl

pub substr_is : (x : Column × ((Op × Side) ⊎ (Bool × Some1 Value))) → substr_tree x ≡ test_tree (led_of (inl x))
substr_is (c, inl x) = refl
substr_is (c, inr x) = refl

column_tailed_is : (c : Column) (x : Bool ⊎ ((Op × Side) ⊎ (Bool × Some1 Value))) → column_tail_tree (column_name c) x ≡ test_tree (column_tailed c x)
column_tailed_is c (inl n) = refl
column_tailed_is c (inr (inl x)) = refl
column_tailed_is c (inr (inr x)) = refl

pub column_test_is : (s : Spelled) (first : List ℕ) → first ≡ s.name → (x : Option Spelled × (Bool ⊎ ((Op × Side) ⊎ (Bool × Some1 Value)))) → column_test_tree first x ≡ test_tree (led_of (inr (s, x)))
column_test_is s first e x = ap (λ name. column_tail_tree name x.1) (last_is s x.0 first e) ∙ column_tailed_is (column_of (s, x.0)) x.1

pub substr_gives : (c : Column) (name : List ℕ) (old mid new : List Token) (given : Result trees.Cond Stop) → Reads substr_rest old (Ok (c, mid)) → name ≡ column_name c
    → Gives (tail_tree (operand.Prefix33 name)) tail mid given new → Gives substr_tree (both substr_rest tail) old given new
substr_gives c name old mid new given h e k =
    gives_then substr_tree substr_rest tail new given h
    (gives_same (tail_tree (operand.Prefix33 name)) (λ x. substr_tree (c, x)) tail mid new given (λ x. ap (λ (n : List ℕ). tail_tree (operand.Prefix33 n) x) e) k)

pub column_gives : (rest : Option Spelled) (first name : List ℕ) (old mid new : List Token) (given : Result trees.Cond Stop) → Reads column_rest old (Ok (rest, mid)) → name ≡ last_of first rest
    → Gives (column_tail_tree name) column_tail mid given new → Gives (column_test_tree first) (both column_rest column_tail) old given new
column_gives rest first name old mid new given h e k =
    gives_then (column_test_tree first) column_rest column_tail new given h
    (gives_same (column_tail_tree name) (λ x. column_test_tree first (rest, x)) column_tail mid new given (λ x. ap (λ (n : List ℕ). column_tail_tree n x) e) k)
