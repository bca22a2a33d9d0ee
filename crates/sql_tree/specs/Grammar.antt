-- Statements, as derivations with their tokens and their trees.
--
--     text   = [ body ] [ ";" ]
--     body   = SELECT items FROM name [ WHERE cond ] [ ORDER BY key { "," key } ] [ LIMIT number ] [ OFFSET number ]
--            | INSERT INTO name [ "(" name { "," name } ")" ] VALUES row { "," row }
--            | UPDATE name SET name "=" value { "," name "=" value } [ WHERE cond ]
--            | DELETE FROM name [ WHERE cond ]
--            | SET name ( "=" | TO ) ( string | [ "+" | "-" ] number | name )
--     items  = "*" | COUNT "(" "*" ")" [ AS name ] | item { "," item }
--     item   = column [ AS name ]
--     key    = column [ ASC | DESC ]
--     row    = "(" value { "," value } ")"
use Rattle.std.specs.Prelude.{ℕ, ◌<◌, ◌^◌, pos, neg_ℤ, Bool, true, false, List, [], ◌∷◌, ◌++◌, map, codes, Option, Some, None, option_map}
use Rattle.std.specs.List.{flat_map}
use Rattle.sql_tokens.specs.declared.keyword.Keyword.TheVariants as word
use Rattle.sql_tokens.specs.declared.sign.Sign.TheVariants as sign
use Rattle.sql_tokens.specs.declared.token.Token.{Token}
use Rattle.sql_tokens.specs.declared.token.Token.TheVariants as t
use Rattle.sql_tree.specs.declared.condition.Operand.{Operand}
use Rattle.sql_tree.specs.declared.condition.Operand.TheVariants as operand
use Rattle.sql_tree.specs.declared.statement.Item as trees_item
use Rattle.sql_tree.specs.declared.statement.Items as trees_items
use Rattle.sql_tree.specs.declared.statement.Items.TheVariants as items
use Rattle.sql_tree.specs.declared.statement.OrderKey.{OrderKey}
use Rattle.sql_tree.specs.declared.statement.SetPair.{SetPair}
use Rattle.sql_tree.specs.declared.statement.Statement.{Statement}
use Rattle.sql_tree.specs.declared.statement.Statement.TheVariants as statement
use Rattle.sql_tree.specs.Parts.{optional, listed, Spelled, name_tokens, Column, column_tokens, column_name, qualifiers, Value, value_tokens, value_operand}
use Rattle.sql_tree.specs.Conditions.{Cond, cond_tokens, cond_tree, cond_qualifiers}

-- the items of a SELECT
pub record Item : Type 0 where
  pub column : Column
  pub label : Option Spelled

abbrev pub label_tokens : Option Spelled → List Token
label_tokens label = optional (λ n. t.Word word.As ∷ name_tokens n) label

abbrev pub item_tokens : Item → List Token
item_tokens i = column_tokens i.column ++ label_tokens i.label

abbrev pub label_name : Option Spelled → Option (List ℕ)
label_name label = option_map (λ n. n.name) label

abbrev pub item_tree : Item → trees_item.Item
item_tree i = record { column = column_name i.column; label = label_name i.label }

pub data Items : Type 0 where
  all : Items
  count : Option Spelled → Items
  columns : Item → List Item → Items

abbrev pub items_tokens : Items → List Token
items_tokens all = t.Sign sign.Star ∷ []
items_tokens (count label) = t.Name (codes "count") false ∷ t.Sign sign.Open ∷ t.Sign sign.Star ∷ t.Sign sign.Close ∷ label_tokens label
items_tokens (columns i more) = listed item_tokens i more

abbrev pub items_tree : Items → trees_items.Items
items_tree all = items.All
items_tree (count label) = items.Count (label_name label)
items_tree (columns i more) = items.Columns (map item_tree (i ∷ more))

abbrev pub items_qualifiers : Items → List (List ℕ)
items_qualifiers all = []
items_qualifiers (count label) = []
items_qualifiers (columns i more) = flat_map (λ (x : Item). qualifiers x.column) (i ∷ more)

-- what orders the rows
pub data Direction : Type 0 where
  unsaid : Direction
  ascending : Direction
  descending : Direction

abbrev pub direction_tokens : Direction → List Token
direction_tokens unsaid = []
direction_tokens ascending = t.Word word.Asc ∷ []
direction_tokens descending = t.Word word.Desc ∷ []

abbrev pub is_descending : Direction → Bool
is_descending unsaid = false
is_descending ascending = false
is_descending descending = true

pub record Key : Type 0 where
  pub column : Column
  pub direction : Direction

abbrev pub key_tokens : Key → List Token
key_tokens k = column_tokens k.column ++ direction_tokens k.direction

abbrev pub key_tree : Key → OrderKey
key_tree k = record { column = column_name k.column; descending = is_descending k.direction }

-- one and more
pub record Some1 (A : Type 0) : Type 0 where
  pub first : A
  pub more : List A

abbrev pub all_of : {A : Type 0} → Some1 A → List A
all_of l = l.first ∷ l.more

abbrev pub order_tokens : Some1 Key → List Token
order_tokens o = t.Word word.Order ∷ t.Word word.By ∷ listed key_tokens o.first o.more

-- the number of LIMIT and OFFSET
pub record Bound : Type 0 where
  pub number : ℕ
  pub below : number < 2 ^ 63

abbrev pub where_tokens : Option Cond → List Token
where_tokens cond = optional (λ c. t.Word word.Where ∷ cond_tokens c) cond

abbrev pub names_tokens : Some1 Spelled → List Token
names_tokens l = t.Sign sign.Open ∷ (listed name_tokens l.first l.more ++ t.Sign sign.Close ∷ [])

abbrev pub row_tokens : Some1 Value → List Token
row_tokens r = t.Sign sign.Open ∷ (listed value_tokens r.first r.more ++ t.Sign sign.Close ∷ [])

pub record Pair : Type 0 where
  pub column : Spelled
  pub value : Value

abbrev pub pair_tokens : Pair → List Token
pair_tokens p = name_tokens p.column ++ t.Sign sign.Equal ∷ value_tokens p.value

abbrev pub pair_tree : Pair → SetPair
pair_tree p = record { column = p.column.name; value = value_operand p.value }

-- the value that SET sets, of which a name is a string
pub data Setting : Type 0 where
  text : List ℕ → Setting
  number : ℕ → Setting
  plus : ℕ → Setting
  minus : ℕ → Setting
  named : Spelled → Setting

abbrev pub setting_tokens : Setting → List Token
setting_tokens (text s) = t.Text s ∷ []
setting_tokens (number n) = t.Number n ∷ []
setting_tokens (plus n) = t.Sign sign.Plus ∷ t.Number n ∷ []
setting_tokens (minus n) = t.Sign sign.Minus ∷ t.Number n ∷ []
setting_tokens (named n) = name_tokens n

abbrev pub setting_operand : Setting → Operand
setting_operand (text s) = operand.Text s
setting_operand (number n) = operand.Number (pos n)
setting_operand (plus n) = operand.Number (pos n)
setting_operand (minus n) = operand.Number (neg_ℤ (pos n))
setting_operand (named n) = operand.Text n.name

-- "=" or TO
abbrev pub to_token : Bool → Token
to_token true = t.Word word.To
to_token false = t.Sign sign.Equal

pub record Select : Type 0 where
  pub items : Items
  pub table : Spelled
  pub cond : Option Cond
  pub order : Option (Some1 Key)
  pub limit : Option Bound
  pub offset : Option Bound

pub data Body : Type 0 where
  select : Select → Body
  insert : Spelled → Option (Some1 Spelled) → Some1 (Some1 Value) → Body
  update : Spelled → Some1 Pair → Option Cond → Body
  delete : Spelled → Option Cond → Body
  set : Spelled → Bool → Setting → Body

abbrev pub body_tokens : Body → List Token
body_tokens (select q) =
    t.Word word.Select ∷ (items_tokens q.items ++ t.Word word.From ∷ (name_tokens q.table ++ (where_tokens q.cond ++ (optional order_tokens q.order
    ++ (optional (λ (b : Bound). t.Word word.Limit ∷ t.Number b.number ∷ []) q.limit ++ optional (λ (b : Bound). t.Word word.Offset ∷ t.Number b.number ∷ []) q.offset)))))
body_tokens (insert table names rows) =
    t.Word word.Insert ∷ t.Word word.Into ∷ (name_tokens table ++ (optional names_tokens names ++ t.Word word.Values ∷ listed row_tokens rows.first rows.more))
body_tokens (update table pairs cond) = t.Word word.Update ∷ (name_tokens table ++ t.Word word.Set ∷ (listed pair_tokens pairs.first pairs.more ++ where_tokens cond))
body_tokens (delete table cond) = t.Word word.Delete ∷ t.Word word.From ∷ (name_tokens table ++ where_tokens cond)
body_tokens (set name to value) = t.Word word.Set ∷ (name_tokens name ++ to_token to ∷ setting_tokens value)

abbrev pub body_tree : Body → Statement
body_tree (select q) =
    statement.Select q.table.name (items_tree q.items) (option_map cond_tree q.cond) (elim (q.order) [ None ↦ [] | Some o ↦ map key_tree (all_of o) ])
    (option_map (λ (b : Bound). b.number) q.limit) (option_map (λ (b : Bound). b.number) q.offset)
body_tree (insert table names rows) =
    statement.Insert table.name (option_map (λ (l : Some1 Spelled). map (λ (n : Spelled). n.name) (all_of l)) names)
    (map (λ (r : Some1 Value). map value_operand (all_of r)) (all_of rows))
body_tree (update table pairs cond) = statement.Update table.name (map pair_tree (all_of pairs)) (option_map cond_tree cond)
body_tree (delete table cond) = statement.Delete table.name (option_map cond_tree cond)
body_tree (set name to value) = statement.Set name.name (setting_operand value)

abbrev pub option_qualifiers : Option Cond → List (List ℕ)
option_qualifiers cond = elim cond [ None ↦ [] | Some c ↦ cond_qualifiers c ]

-- the names that stand before columns
abbrev pub body_qualifiers : Body → List (List ℕ)
body_qualifiers (select q) = items_qualifiers q.items ++ (option_qualifiers q.cond ++ elim (q.order) [ None ↦ [] | Some o ↦ flat_map (λ (k : Key). qualifiers k.column) (all_of o) ])
body_qualifiers (insert table names rows) = []
body_qualifiers (update table pairs cond) = option_qualifiers cond
body_qualifiers (delete table cond) = option_qualifiers cond
body_qualifiers (set name to value) = []

abbrev pub body_table : Body → List ℕ
body_table (select q) = q.table.name
body_table (insert table names rows) = table.name
body_table (update table pairs cond) = table.name
body_table (delete table cond) = table.name
body_table (set name to value) = []

-- a whole text
pub record Text : Type 0 where
  pub body : Option Body
  pub semicolon : Bool

abbrev pub semicolon_tokens : Bool → List Token
semicolon_tokens true = t.Sign sign.Semicolon ∷ []
semicolon_tokens false = []

abbrev pub text_tokens : Text → List Token
text_tokens x = optional body_tokens x.body ++ semicolon_tokens x.semicolon

abbrev pub text_tree : Text → Statement
text_tree x = elim (x.body) [ None ↦ statement.Empty | Some b ↦ body_tree b ]
