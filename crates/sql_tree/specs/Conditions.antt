-- Conditions, as derivations with their tokens and their trees.
--
--     cond = conj { OR conj }
--     conj = neg { AND neg }
--     neg  = NOT neg | "(" cond ")" | test
--     test = left op ( left | value ) | value op left
--          | left [ NOT ] IN "(" value { "," value } ")" | column IS [ NOT ] NULL
use Rattle.std.specs.Prelude.{ℕ, ◌+◌, max, Bool, true, false, List, [], ◌∷◌, ◌++◌, map}
use Rattle.sql_tokens.specs.declared.keyword.Keyword.TheVariants as word
use Rattle.sql_tokens.specs.declared.sign.Sign.TheVariants as sign
use Rattle.sql_tokens.specs.declared.token.Token.{Token}
use Rattle.sql_tokens.specs.declared.token.Token.TheVariants as t
use Rattle.sql_tree.specs.declared.condition.Op.{Op}
use Rattle.sql_tree.specs.declared.condition.Operand.{Operand}
use Rattle.sql_tree.specs.declared.condition.Cond.TheVariants as tree
use Rattle.sql_tree.specs.declared.condition.Cond as trees
use Rattle.sql_tree.specs.Parts.{listed, Column, column_tokens, column_name, qualifiers, Value, value_tokens, value_operand, Left, left_tokens, left_operand, left_qualifiers, op_token}

-- what stands right of an operator
pub data Side : Type 0 where
  left : Left → Side
  value : Value → Side

abbrev pub side_tokens : Side → List Token
side_tokens (left l) = left_tokens l
side_tokens (value v) = value_tokens v

abbrev pub side_operand : Side → Operand
side_operand (left l) = left_operand l
side_operand (value v) = value_operand v

abbrev pub side_qualifiers : Side → List (List ℕ)
side_qualifiers (left l) = left_qualifiers l
side_qualifiers (value v) = []

pub data Test : Type 0 where
  compare : Left → Op → Side → Test
  flipped : Value → Op → Left → Test
  within : Left → Bool → Value → List Value → Test
  null : Column → Bool → Test

-- NOT, where it stands
abbrev pub not_tokens : Bool → List Token
not_tokens true = t.Word word.Not ∷ []
not_tokens false = []

abbrev pub test_tokens : Test → List Token
test_tokens (compare l op s) = left_tokens l ++ op_token op ∷ side_tokens s
test_tokens (flipped v op l) = value_tokens v ++ op_token op ∷ left_tokens l
test_tokens (within l negated v more) = left_tokens l ++ (not_tokens negated ++ t.Word word.In ∷ t.Sign sign.Open ∷ (listed value_tokens v more ++ t.Sign sign.Close ∷ []))
test_tokens (null c negated) = column_tokens c ++ t.Word word.Is ∷ (not_tokens negated ++ t.Word word.Null ∷ [])

abbrev pub not_tree : Bool → trees.Cond → trees.Cond
not_tree true c = tree.Not c
not_tree false c = c

abbrev pub test_tree : Test → trees.Cond
test_tree (compare l op s) = tree.Compare (left_operand l) op (side_operand s)
test_tree (flipped v op l) = tree.Compare (value_operand v) op (left_operand l)
test_tree (within l negated v more) = not_tree negated (tree.Within (left_operand l) (map value_operand (v ∷ more)))
test_tree (null c negated) = not_tree negated (tree.Null (column_name c))

abbrev pub test_qualifiers : Test → List (List ℕ)
test_qualifiers (compare l op s) = left_qualifiers l ++ side_qualifiers s
test_qualifiers (flipped v op l) = left_qualifiers l
test_qualifiers (within l negated v more) = left_qualifiers l
test_qualifiers (null c negated) = qualifiers c

mutual
  pub data Cond : Type 0 where
    only : Conj → Cond
    or : Conj → Cond → Cond

  pub data Conj : Type 0 where
    single : Neg → Conj
    and : Neg → Conj → Conj

  pub data Neg : Type 0 where
    not : Neg → Neg
    parens : Cond → Neg
    test : Test → Neg

abbrev mutual
  pub cond_tokens : Cond → List Token
  cond_tokens (only c) = conj_tokens c
  cond_tokens (or c d) = conj_tokens c ++ t.Word word.Or ∷ cond_tokens d

  pub conj_tokens : Conj → List Token
  conj_tokens (single n) = neg_tokens n
  conj_tokens (and n c) = neg_tokens n ++ t.Word word.And ∷ conj_tokens c

  pub neg_tokens : Neg → List Token
  neg_tokens (not n) = t.Word word.Not ∷ neg_tokens n
  neg_tokens (parens d) = t.Sign sign.Open ∷ (cond_tokens d ++ t.Sign sign.Close ∷ [])
  neg_tokens (test x) = test_tokens x

-- one part is that part, and parentheses leave no node
abbrev pub or_of : List trees.Cond → trees.Cond
or_of [] = tree.Or []
or_of (one ∷ []) = one
or_of (one ∷ two ∷ more) = tree.Or (one ∷ two ∷ more)

abbrev pub and_of : List trees.Cond → trees.Cond
and_of [] = tree.And []
and_of (one ∷ []) = one
and_of (one ∷ two ∷ more) = tree.And (one ∷ two ∷ more)

abbrev mutual
  pub cond_parts : Cond → List trees.Cond
  cond_parts (only c) = and_of (conj_parts c) ∷ []
  cond_parts (or c d) = and_of (conj_parts c) ∷ cond_parts d

  pub conj_parts : Conj → List trees.Cond
  conj_parts (single n) = neg_tree n ∷ []
  conj_parts (and n c) = neg_tree n ∷ conj_parts c

  pub neg_tree : Neg → trees.Cond
  neg_tree (not n) = tree.Not (neg_tree n)
  neg_tree (parens d) = or_of (cond_parts d)
  neg_tree (test x) = test_tree x

abbrev pub cond_tree : Cond → trees.Cond
cond_tree d = or_of (cond_parts d)

abbrev mutual
  pub cond_qualifiers : Cond → List (List ℕ)
  cond_qualifiers (only c) = conj_qualifiers c
  cond_qualifiers (or c d) = conj_qualifiers c ++ cond_qualifiers d

  pub conj_qualifiers : Conj → List (List ℕ)
  conj_qualifiers (single n) = neg_qualifiers n
  conj_qualifiers (and n c) = neg_qualifiers n ++ conj_qualifiers c

  pub neg_qualifiers : Neg → List (List ℕ)
  neg_qualifiers (not n) = neg_qualifiers n
  neg_qualifiers (parens d) = cond_qualifiers d
  neg_qualifiers (test x) = test_qualifiers x

-- how many parentheses and NOTs are open at once, at most
abbrev mutual
  pub cond_open : Cond → ℕ
  cond_open (only c) = conj_open c
  cond_open (or c d) = max (conj_open c) (cond_open d)

  pub conj_open : Conj → ℕ
  conj_open (single n) = neg_open n
  conj_open (and n c) = max (neg_open n) (conj_open c)

  pub neg_open : Neg → ℕ
  neg_open (not n) = neg_open n + 1
  neg_open (parens d) = cond_open d + 1
  neg_open (test x) = 0
