-- The grammar's smallest parts, as derivations with their tokens and what they are in the tree.
--
--     column = [ name "." ] name
--     value  = string | [ "+" | "-" ] number | NULL | parameter
--     left   = column | SUBSTR "(" column "," 1 "," 33 ")"
use Rattle.std.specs.Prelude.{ℕ, pos, neg_ℤ, Bool, false, List, [], ◌∷◌, ◌++◌, codes, Option, Some, None}
use Rattle.std.specs.List.{flat_map}
use Rattle.sql_tokens.specs.declared.keyword.Keyword.TheVariants as word
use Rattle.sql_tokens.specs.declared.sign.Sign.TheVariants as sign
use Rattle.sql_tokens.specs.declared.token.Token.{Token}
use Rattle.sql_tokens.specs.declared.token.Token.TheVariants as t
use Rattle.sql_tree.specs.declared.condition.Op.{Op}
use Rattle.sql_tree.specs.declared.condition.Op.TheVariants as op
use Rattle.sql_tree.specs.declared.condition.Operand.{Operand}
use Rattle.sql_tree.specs.declared.condition.Operand.TheVariants as operand

abbrev pub optional : {A : Type 0} → (A → List Token) → Option A → List Token
optional tokens None = []
optional tokens (Some a) = tokens a

-- a part and more of them, with a comma between two
abbrev pub listed : {A : Type 0} → (A → List Token) → A → List A → List Token
listed tokens a more = tokens a ++ flat_map (λ b. t.Sign sign.Comma ∷ tokens b) more

-- a name in quotes or without
pub record Spelled : Type 0 where
  pub name : List ℕ
  pub quoted : Bool

abbrev pub name_tokens : Spelled → List Token
name_tokens n = t.Name n.name n.quoted ∷ []

pub record Column : Type 0 where
  pub qualifier : Option Spelled
  pub column : Spelled

abbrev pub column_tokens : Column → List Token
column_tokens c = optional (λ q. name_tokens q ++ t.Sign sign.Dot ∷ []) c.qualifier ++ name_tokens c.column

abbrev pub column_name : Column → List ℕ
column_name c = c.column.name

-- the table's name before a column, where one stands there
abbrev pub qualifiers : Column → List (List ℕ)
qualifiers c = elim (c.qualifier) [ None ↦ [] | Some q ↦ q.name ∷ [] ]

pub data Value : Type 0 where
  text : List ℕ → Value
  number : ℕ → Value
  plus : ℕ → Value
  minus : ℕ → Value
  null : Value
  parameter : ℕ → Value

abbrev pub value_tokens : Value → List Token
value_tokens (text s) = t.Text s ∷ []
value_tokens (number n) = t.Number n ∷ []
value_tokens (plus n) = t.Sign sign.Plus ∷ t.Number n ∷ []
value_tokens (minus n) = t.Sign sign.Minus ∷ t.Number n ∷ []
value_tokens null = t.Word word.Null ∷ []
value_tokens (parameter n) = t.Parameter n ∷ []

abbrev pub value_operand : Value → Operand
value_operand (text s) = operand.Text s
value_operand (number n) = operand.Number (pos n)
value_operand (plus n) = operand.Number (pos n)
value_operand (minus n) = operand.Number (neg_ℤ (pos n))
value_operand null = operand.NullValue
value_operand (parameter n) = operand.Parameter n

-- SUBSTR is a word only before a parenthesis
pub data Left : Type 0 where
  column : Column → Left
  substr : Column → Left

abbrev pub left_tokens : Left → List Token
left_tokens (column c) = column_tokens c
left_tokens (substr c) =
    t.Name (codes "substr") false ∷ t.Sign sign.Open ∷ (column_tokens c ++ t.Sign sign.Comma ∷ t.Number 1 ∷ t.Sign sign.Comma ∷ t.Number 33 ∷ t.Sign sign.Close ∷ [])

abbrev pub left_operand : Left → Operand
left_operand (column c) = operand.Column (column_name c)
left_operand (substr c) = operand.Prefix33 (column_name c)

abbrev pub left_qualifiers : Left → List (List ℕ)
left_qualifiers (column c) = qualifiers c
left_qualifiers (substr c) = qualifiers c

abbrev pub op_token : Op → Token
op_token op.Eq = t.Sign sign.Equal
op_token op.Ne = t.Sign sign.NotEqual
op_token op.Lt = t.Sign sign.Less
op_token op.Le = t.Sign sign.AtMost
op_token op.Gt = t.Sign sign.Greater
op_token op.Ge = t.Sign sign.AtLeast
