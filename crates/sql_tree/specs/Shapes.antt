-- The canonical tokens of a statement. A child of AND, OR or NOT that is an AND or an OR stands in parentheses, another one
-- does not; numbers have no sign but "-"; names stand in quotes.
use Rattle.std.specs.Prelude.{ℕ, suc, ◌+◌, max, pos, negsuc, Bool, true, false, if◌then◌else◌, List, [], ◌∷◌, ◌++◌, codes, Option}
use Rattle.std.specs.List.{flat_map}
use Rattle.sql_tokens.specs.declared.keyword.Keyword.{Keyword}
use Rattle.sql_tokens.specs.declared.keyword.Keyword.TheVariants as word
use Rattle.sql_tokens.specs.declared.sign.Sign.TheVariants as sign
use Rattle.sql_tokens.specs.declared.token.Token.{Token}
use Rattle.sql_tokens.specs.declared.token.Token.TheVariants as t
use Rattle.sql_tree.specs.declared.condition.Operand.{Operand}
use Rattle.sql_tree.specs.declared.condition.Operand.TheVariants as operand
use Rattle.sql_tree.specs.declared.condition.Cond.{Cond}
use Rattle.sql_tree.specs.declared.condition.Cond.TheOpen.{Cond-F}
use Rattle.sql_tree.specs.declared.condition.Cond.TheFolds.{fold-Cond}
use Rattle.sql_tree.specs.declared.statement.Item.{Item}
use Rattle.sql_tree.specs.declared.statement.Items.{Items}
use Rattle.sql_tree.specs.declared.statement.Items.TheVariants as items
use Rattle.sql_tree.specs.declared.statement.OrderKey.{OrderKey}
use Rattle.sql_tree.specs.declared.statement.SetPair.{SetPair}
use Rattle.sql_tree.specs.declared.statement.Statement.{Statement}
use Rattle.sql_tree.specs.declared.statement.Statement.TheVariants as statement
use Rattle.sql_tree.specs.Parts.{optional, op_token}

abbrev pub quoted : List ℕ → List Token
quoted name = t.Name name true ∷ []

abbrev pub operand_shape : Operand → List Token
operand_shape (operand.Column c) = quoted c
operand_shape (operand.Prefix33 c) =
    t.Name (codes "substr") false ∷ t.Sign sign.Open ∷ (quoted c ++ t.Sign sign.Comma ∷ t.Number 1 ∷ t.Sign sign.Comma ∷ t.Number 33 ∷ t.Sign sign.Close ∷ [])
operand_shape (operand.Text s) = t.Text s ∷ []
operand_shape (operand.Number (pos n)) = t.Number n ∷ []
operand_shape (operand.Number (negsuc n)) = t.Sign sign.Minus ∷ t.Number (suc n) ∷ []
operand_shape operand.NullValue = t.Word word.Null ∷ []
operand_shape (operand.Parameter n) = t.Parameter n ∷ []

-- the tokens of the parts, with one between two
abbrev pub joined : {A : Type 0} → Token → (A → List Token) → List A → List Token
joined by tokens [] = []
joined by tokens (a ∷ more) = tokens a ++ flat_map (λ b. by ∷ tokens b) more

abbrev pub commas : {A : Type 0} → (A → List Token) → List A → List Token
commas tokens all = joined (t.Sign sign.Comma) tokens all

abbrev pub in_parens : List Token → List Token
in_parens tokens = t.Sign sign.Open ∷ (tokens ++ t.Sign sign.Close ∷ [])

-- whether it is an AND or an OR, and its tokens
abbrev pub Shape : Type 0
Shape = Bool × List Token

abbrev pub child : Shape → List Token
child s = if s.0 then in_parens s.1 else s.1

abbrev pub shape_step : Cond-F Shape → Shape
shape_step (Cond-F.And all) = (true, joined (t.Word word.And) child all)
shape_step (Cond-F.Or all) = (true, joined (t.Word word.Or) child all)
shape_step (Cond-F.Not s) = (false, t.Word word.Not ∷ child s)
shape_step (Cond-F.Compare left op right) = (false, operand_shape left ++ op_token op ∷ operand_shape right)
shape_step (Cond-F.Within left list) = (false, operand_shape left ++ t.Word word.In ∷ in_parens (commas operand_shape list))
shape_step (Cond-F.Null column) = (false, quoted column ++ t.Word word.Is ∷ t.Word word.Null ∷ [])

abbrev pub shape : Cond → Shape
shape = fold-Cond Shape shape_step

abbrev pub label_shape : Option (List ℕ) → List Token
label_shape label = optional (λ n. t.Word word.As ∷ quoted n) label

abbrev pub item_shape : Item → List Token
item_shape i = quoted i.column ++ label_shape i.label

abbrev pub items_shape : Items → List Token
items_shape items.All = t.Sign sign.Star ∷ []
items_shape (items.Count label) = t.Name (codes "count") false ∷ t.Sign sign.Open ∷ t.Sign sign.Star ∷ t.Sign sign.Close ∷ label_shape label
items_shape (items.Columns all) = commas item_shape all

abbrev pub key_shape : OrderKey → List Token
key_shape k = quoted k.column ++ (if k.descending then t.Word word.Desc ∷ [] else [])

abbrev pub order_shape : List OrderKey → List Token
order_shape [] = []
order_shape (k ∷ more) = t.Word word.Order ∷ t.Word word.By ∷ commas key_shape (k ∷ more)

abbrev pub bound_shape : Keyword → Option ℕ → List Token
bound_shape w number = optional (λ n. t.Word w ∷ t.Number n ∷ []) number

abbrev pub where_shape : Option Cond → List Token
where_shape cond = optional (λ c. t.Word word.Where ∷ (shape c).1) cond

abbrev pub pair_shape : SetPair → List Token
pair_shape p = quoted p.column ++ t.Sign sign.Equal ∷ operand_shape p.value

abbrev pub row_shape : List Operand → List Token
row_shape row = in_parens (commas operand_shape row)

abbrev pub printed : Statement → List Token
printed statement.Empty = []
printed (statement.Set name value) = t.Word word.Set ∷ (quoted name ++ t.Sign sign.Equal ∷ operand_shape value)
printed (statement.Select table all cond order limit offset) =
    t.Word word.Select ∷ (items_shape all ++ t.Word word.From ∷ (quoted table ++ (where_shape cond ++ (order_shape order
    ++ (bound_shape word.Limit limit ++ bound_shape word.Offset offset)))))
printed (statement.Insert table columns rows) =
    t.Word word.Insert ∷ t.Word word.Into ∷ (quoted table ++ (optional (λ names. in_parens (commas quoted names)) columns ++ t.Word word.Values ∷ commas row_shape rows))
printed (statement.Update table sets cond) = t.Word word.Update ∷ (quoted table ++ t.Word word.Set ∷ (commas pair_shape sets ++ where_shape cond))
printed (statement.Delete table cond) = t.Word word.Delete ∷ t.Word word.From ∷ (quoted table ++ where_shape cond)

-- how deep the nodes And, Or and Not stand
abbrev pub most : List ℕ → ℕ
most [] = 0
most (a ∷ more) = max a (most more)

abbrev pub depth_step : Cond-F ℕ → ℕ
depth_step (Cond-F.And all) = most all + 1
depth_step (Cond-F.Or all) = most all + 1
depth_step (Cond-F.Not a) = a + 1
depth_step (Cond-F.Compare left op right) = 0
depth_step (Cond-F.Within left list) = 0
depth_step (Cond-F.Null column) = 0

abbrev pub node_depth : Cond → ℕ
node_depth = fold-Cond ℕ depth_step
