-- The parameters of the tokens are the parameters of the statement.
use Rattle.std.proofs.Common.{◌≡◌, ℕ, Bool, true, false, List, [], ◌∷◌, ◌++◌, map, append_assoc, append-nil, refl, sym, ap, ◌∙◌}
use Rattle.std.specs.Prelude.{Option, Some, None, option_map}
use Rattle.std.specs.List.{flat_map}
use Rattle.sql_tokens.specs.declared.keyword.Keyword.TheVariants as word
use Rattle.sql_tokens.specs.declared.sign.Sign.TheVariants as sign
use Rattle.sql_tokens.specs.declared.token.Token.{Token}
use Rattle.sql_tokens.specs.declared.token.Token.TheVariants as t
use Rattle.sql_tree.specs.declared.condition.Op.{Op}
use Rattle.sql_tree.specs.declared.condition.Op.TheVariants as op
use Rattle.sql_tree.specs.declared.condition.Operand.{Operand}
use Rattle.sql_tree.specs.declared.condition.Cond as trees
use Rattle.sql_tree.specs.declared.condition.Cond.TheVariants as tree
use Rattle.sql_tree.specs.declared.condition.Cond.TheOpen.{Cond-F}
use Rattle.sql_tree.specs.declared.condition.Cond.TheFolds.{fold-roll-Cond}
use Rattle.sql_tree.specs.declared.statement.SetPair.{SetPair}
use Rattle.sql_tree.specs.Parts as parts
use Rattle.sql_tree.specs.Parts.{optional, listed, Spelled, name_tokens, Column, column_tokens, Value, value_tokens, value_operand, Left, left_tokens, left_operand, op_token}
use Rattle.sql_tree.specs.Conditions as conditions
use Rattle.sql_tree.specs.Conditions.{Side, side_tokens, side_operand, Test, test_tokens, test_tree, not_tokens, not_tree, and_of, or_of, Cond, Conj, Neg, cond_tokens, conj_tokens, neg_tokens, cond_parts, conj_parts, neg_tree, cond_tree}
use Rattle.sql_tree.specs.Grammar as grammar
use Rattle.sql_tree.specs.Grammar.{Item, item_tokens, label_tokens, Items, items_tokens, Key, key_tokens, direction_tokens, Some1, all_of, order_tokens, Bound, where_tokens, names_tokens, row_tokens, pair_tokens, pair_tree, Setting, setting_tokens, Body, body_tokens, body_tree, Text, text_tokens, text_tree, semicolon_tokens}
use Rattle.sql_tree.specs.Spelling.{operand_parameters, cond_step, cond_parameters, parameters}
use Rattle.sql_readers.specs.Passes.{number_of, numbers}

joined : (xs ys : List Token) → numbers (xs ++ ys) ≡ numbers xs ++ numbers ys
joined [] ys = refl
joined (x ∷ xs) ys = ap (λ w. number_of x ++ w) (joined xs ys) ∙ sym (append_assoc (number_of x) (numbers xs) (numbers ys))

split : (xs ys : List Token) (a b : List ℕ) → numbers xs ≡ a → numbers ys ≡ b → numbers (xs ++ ys) ≡ a ++ b
split xs ys a b e f = joined xs ys ∙ (λ i. e i ++ f i)

second : (xs ys : List Token) (b : List ℕ) → numbers xs ≡ [] → numbers ys ≡ b → numbers (xs ++ ys) ≡ b
second xs ys b e f = split xs ys [] b e f

first : (xs ys : List Token) (a : List ℕ) → numbers xs ≡ a → numbers ys ≡ [] → numbers (xs ++ ys) ≡ a
first xs ys a e f = split xs ys a [] e f ∙ append-nil a

others : {A : Type 0} (tok : A → List Token) (of : A → List ℕ) (is : (a : A) → numbers (tok a) ≡ of a) (more : List A) → numbers (flat_map (λ b. t.Sign sign.Comma ∷ tok b) more) ≡ flat_map of more
others tok of is [] = refl
others tok of is (x ∷ more) = split (tok x) (flat_map (λ b. t.Sign sign.Comma ∷ tok b) more) (of x) (flat_map of more) (is x) (others tok of is more)

list_numbers : {A : Type 0} (tok : A → List Token) (of : A → List ℕ) (is : (a : A) → numbers (tok a) ≡ of a) (a : A) (more : List A) → numbers (listed tok a more) ≡ flat_map of (a ∷ more)
list_numbers tok of is a more = split (tok a) (flat_map (λ b. t.Sign sign.Comma ∷ tok b) more) (of a) (flat_map of more) (is a) (others tok of is more)

abbrev none_of : {A : Type 0} → A → List ℕ
none_of a = []

no_others : {A : Type 0} (more : List A) → flat_map none_of more ≡ []
no_others [] = refl
no_others (x ∷ more) = no_others more

list_none : {A : Type 0} (tok : A → List Token) (is : (a : A) → numbers (tok a) ≡ []) (a : A) (more : List A) → numbers (listed tok a more) ≡ []
list_none tok is a more = list_numbers tok none_of is a more ∙ no_others more

-- of what parts are made
mapped : {A B : Type 0} (f : A → B) (of : B → List ℕ) (xs : List A) → flat_map of (map f xs) ≡ flat_map (λ x. of (f x)) xs
mapped f of [] = refl
mapped f of (x ∷ xs) = ap (λ w. of (f x) ++ w) (mapped f of xs)

-- ---- columns and values

column_by : (q : Option Spelled) (c : Spelled) → numbers (optional (λ q. name_tokens q ++ t.Sign sign.Dot ∷ []) q ++ name_tokens c) ≡ []
column_by None c = refl
column_by (Some q) c = refl

column_numbers : (c : Column) → numbers (column_tokens c) ≡ []
column_numbers c = column_by c.qualifier c.column

value_numbers : (v : Value) → numbers (value_tokens v) ≡ operand_parameters (value_operand v)
value_numbers (parts.text s) = refl
value_numbers (parts.number n) = refl
value_numbers (parts.plus n) = refl
value_numbers (parts.minus n) = refl
value_numbers parts.null = refl
value_numbers (parts.parameter n) = refl

left_numbers : (l : Left) → numbers (left_tokens l) ≡ operand_parameters (left_operand l)
left_numbers (parts.column c) = column_numbers c
left_numbers (parts.substr c) = first (column_tokens c) _ [] (column_numbers c) refl

side_numbers : (s : Side) → numbers (side_tokens s) ≡ operand_parameters (side_operand s)
side_numbers (conditions.left l) = left_numbers l
side_numbers (conditions.value v) = value_numbers v

row_numbers : (r : Some1 Value) → numbers (row_tokens r) ≡ flat_map operand_parameters (map value_operand (all_of r))
row_numbers r =
    first (listed value_tokens r.first r.more) (t.Sign sign.Close ∷ []) (flat_map (λ v. operand_parameters (value_operand v)) (all_of r))
    (list_numbers value_tokens (λ v. operand_parameters (value_operand v)) value_numbers r.first r.more) refl
    ∙ sym (mapped value_operand operand_parameters (all_of r))

op_numbers : (o : Op) (ts : List Token) → numbers (op_token o ∷ ts) ≡ numbers ts
op_numbers op.Eq ts = refl
op_numbers op.Ne ts = refl
op_numbers op.Lt ts = refl
op_numbers op.Le ts = refl
op_numbers op.Gt ts = refl
op_numbers op.Ge ts = refl

not_numbers : (b : Bool) (ts : List Token) → numbers (not_tokens b ++ ts) ≡ numbers ts
not_numbers true ts = refl
not_numbers false ts = refl

params-And : (all : List trees.Cond) → cond_parameters (tree.And all) ≡ flat_map (λ x. x) (map cond_parameters all)
params-And all = ap cond_parameters (sym (tree.rolls-And all)) ∙ fold-roll-Cond (List ℕ) cond_step (Cond-F.And all)

params-Or : (all : List trees.Cond) → cond_parameters (tree.Or all) ≡ flat_map (λ x. x) (map cond_parameters all)
params-Or all = ap cond_parameters (sym (tree.rolls-Or all)) ∙ fold-roll-Cond (List ℕ) cond_step (Cond-F.Or all)

params-Not : (c : trees.Cond) → cond_parameters (tree.Not c) ≡ cond_parameters c
params-Not c = ap cond_parameters (sym (tree.rolls-Not c)) ∙ fold-roll-Cond (List ℕ) cond_step (Cond-F.Not c)

params-Compare : (left : Operand) (op : Op) (right : Operand) → cond_parameters (tree.Compare left op right) ≡ operand_parameters left ++ operand_parameters right
params-Compare left op right = ap cond_parameters (sym (tree.rolls-Compare left op right)) ∙ fold-roll-Cond (List ℕ) cond_step (Cond-F.Compare left op right)

params-Within : (left : Operand) (list : List Operand) → cond_parameters (tree.Within left list) ≡ operand_parameters left ++ flat_map operand_parameters list
params-Within left list = ap cond_parameters (sym (tree.rolls-Within left list)) ∙ fold-roll-Cond (List ℕ) cond_step (Cond-F.Within left list)

params-Null : (column : List ℕ) → cond_parameters (tree.Null column) ≡ []
params-Null column = ap cond_parameters (sym (tree.rolls-Null column)) ∙ fold-roll-Cond (List ℕ) cond_step (Cond-F.Null column)

negated : (b : Bool) (c : trees.Cond) → cond_parameters c ≡ cond_parameters (not_tree b c)
negated true c = sym (params-Not c)
negated false c = refl

test_numbers : (x : Test) → numbers (test_tokens x) ≡ cond_parameters (test_tree x)
test_numbers (conditions.compare l o s) =
    split (left_tokens l) _ (operand_parameters (left_operand l)) (operand_parameters (side_operand s)) (left_numbers l) (op_numbers o (side_tokens s) ∙ side_numbers s)
    ∙ sym (params-Compare (left_operand l) o (side_operand s))
test_numbers (conditions.flipped v o l) =
    split (value_tokens v) _ (operand_parameters (value_operand v)) (operand_parameters (left_operand l)) (value_numbers v) (op_numbers o (left_tokens l) ∙ left_numbers l)
    ∙ sym (params-Compare (value_operand v) o (left_operand l))
test_numbers (conditions.within l b v more) =
    split (left_tokens l) _ (operand_parameters (left_operand l)) (flat_map operand_parameters (map value_operand (v ∷ more))) (left_numbers l) (not_numbers b _ ∙ row_numbers (record { first = v; more = more }))
    ∙ sym (params-Within (left_operand l) (map value_operand (v ∷ more))) ∙ negated b (tree.Within (left_operand l) (map value_operand (v ∷ more)))
test_numbers (conditions.null c b) =
    first (column_tokens c) _ [] (column_numbers c) (not_numbers b _) ∙ sym (params-Null (parts.column_name c)) ∙ negated b (tree.Null (parts.column_name c))

-- ---- conditions

flat_id : (xs : List trees.Cond) → flat_map (λ x. x) (map cond_parameters xs) ≡ flat_map cond_parameters xs
flat_id [] = refl
flat_id (x ∷ xs) = ap (λ w. cond_parameters x ++ w) (flat_id xs)

and_numbers : (xs : List trees.Cond) → cond_parameters (and_of xs) ≡ flat_map cond_parameters xs
and_numbers [] = params-And []
and_numbers (one ∷ []) = sym (append-nil (cond_parameters one))
and_numbers (one ∷ two ∷ more) = params-And (one ∷ two ∷ more) ∙ flat_id (one ∷ two ∷ more)

or_numbers : (xs : List trees.Cond) → cond_parameters (or_of xs) ≡ flat_map cond_parameters xs
or_numbers [] = params-Or []
or_numbers (one ∷ []) = sym (append-nil (cond_parameters one))
or_numbers (one ∷ two ∷ more) = params-Or (one ∷ two ∷ more) ∙ flat_id (one ∷ two ∷ more)

mutual
  cond_numbers : (d : Cond) → numbers (cond_tokens d) ≡ flat_map cond_parameters (cond_parts d)
  cond_numbers (conditions.only c) = conj_numbers c ∙ sym (and_numbers (conj_parts c)) ∙ sym (append-nil (cond_parameters (and_of (conj_parts c))))
  cond_numbers (conditions.or c d) =
      split (conj_tokens c) _ (cond_parameters (and_of (conj_parts c))) (flat_map cond_parameters (cond_parts d)) (conj_numbers c ∙ sym (and_numbers (conj_parts c))) (cond_numbers d)

  conj_numbers : (c : Conj) → numbers (conj_tokens c) ≡ flat_map cond_parameters (conj_parts c)
  conj_numbers (conditions.single n) = neg_numbers n ∙ sym (append-nil (cond_parameters (neg_tree n)))
  conj_numbers (conditions.and n c) = split (neg_tokens n) _ (cond_parameters (neg_tree n)) (flat_map cond_parameters (conj_parts c)) (neg_numbers n) (conj_numbers c)

  neg_numbers : (n : Neg) → numbers (neg_tokens n) ≡ cond_parameters (neg_tree n)
  neg_numbers (conditions.not n) = neg_numbers n ∙ sym (params-Not (neg_tree n))
  neg_numbers (conditions.parens d) = first (cond_tokens d) _ (cond_parameters (or_of (cond_parts d))) (cond_numbers d ∙ sym (or_numbers (cond_parts d))) refl
  neg_numbers (conditions.test x) = test_numbers x

abbrev filter_parameters : Option trees.Cond → List ℕ
filter_parameters cond = elim cond [ None ↦ [] | Some c ↦ cond_parameters c ]

where_numbers : (o : Option Cond) → numbers (where_tokens o) ≡ filter_parameters (option_map cond_tree o)
where_numbers None = refl
where_numbers (Some d) = cond_numbers d ∙ sym (or_numbers (cond_parts d))

-- ---- statements

label_numbers : (o : Option Spelled) → numbers (label_tokens o) ≡ []
label_numbers None = refl
label_numbers (Some s) = refl

item_numbers : (i : Item) → numbers (item_tokens i) ≡ []
item_numbers i = first (column_tokens i.column) (label_tokens i.label) [] (column_numbers i.column) (label_numbers i.label)

items_numbers : (x : Items) → numbers (items_tokens x) ≡ []
items_numbers grammar.all = refl
items_numbers (grammar.count None) = refl
items_numbers (grammar.count (Some s)) = refl
items_numbers (grammar.columns i more) = list_none item_tokens item_numbers i more

direction_numbers : (d : grammar.Direction) → numbers (direction_tokens d) ≡ []
direction_numbers grammar.unsaid = refl
direction_numbers grammar.ascending = refl
direction_numbers grammar.descending = refl

key_numbers : (k : Key) → numbers (key_tokens k) ≡ []
key_numbers k = first (column_tokens k.column) (direction_tokens k.direction) [] (column_numbers k.column) (direction_numbers k.direction)

order_numbers : (o : Option (Some1 Key)) → numbers (optional order_tokens o) ≡ []
order_numbers None = refl
order_numbers (Some o) = list_none key_tokens key_numbers o.first o.more

abbrev late : Option Bound → Option Bound → List Token
late x y = optional (λ (b : Bound). t.Word word.Limit ∷ t.Number b.number ∷ []) x ++ optional (λ (b : Bound). t.Word word.Offset ∷ t.Number b.number ∷ []) y

late_numbers : (x y : Option Bound) → numbers (late x y) ≡ []
late_numbers None None = refl
late_numbers None (Some y) = refl
late_numbers (Some x) None = refl
late_numbers (Some x) (Some y) = refl

name_alone : (n : Spelled) → numbers (name_tokens n) ≡ []
name_alone n = refl

names_numbers : (o : Option (Some1 Spelled)) → numbers (optional names_tokens o) ≡ []
names_numbers None = refl
names_numbers (Some l) = first (listed name_tokens l.first l.more) (t.Sign sign.Close ∷ []) [] (list_none name_tokens name_alone l.first l.more) refl

setting_numbers : (s : Setting) → numbers (setting_tokens s) ≡ []
setting_numbers (grammar.text s) = refl
setting_numbers (grammar.number n) = refl
setting_numbers (grammar.plus n) = refl
setting_numbers (grammar.minus n) = refl
setting_numbers (grammar.named n) = refl

body_numbers : (b : Body) → numbers (body_tokens b) ≡ parameters (body_tree b)
body_numbers (grammar.select q) =
    second (items_tokens q.items) _ (filter_parameters (option_map cond_tree q.cond)) (items_numbers q.items)
    (first (where_tokens q.cond) _ (filter_parameters (option_map cond_tree q.cond)) (where_numbers q.cond)
    (second (optional order_tokens q.order) (late q.limit q.offset) [] (order_numbers q.order) (late_numbers q.limit q.offset)))
body_numbers (grammar.insert table names rows) =
    second (optional names_tokens names) _ (flat_map (flat_map operand_parameters) (map (λ (r : Some1 Value). map value_operand (all_of r)) (all_of rows))) (names_numbers names)
    (list_numbers row_tokens (λ r. flat_map operand_parameters (map value_operand (all_of r))) row_numbers rows.first rows.more
    ∙ sym (mapped (λ (r : Some1 Value). map value_operand (all_of r)) (flat_map operand_parameters) (all_of rows)))
body_numbers (grammar.update table pairs cond) =
    split (listed pair_tokens pairs.first pairs.more) (where_tokens cond) (flat_map (λ (p : SetPair). operand_parameters p.value) (map pair_tree (all_of pairs))) (filter_parameters (option_map cond_tree cond))
    (list_numbers pair_tokens (λ p. operand_parameters (value_operand p.value)) (λ p. value_numbers p.value) pairs.first pairs.more ∙ sym (mapped pair_tree (λ (p : SetPair). operand_parameters p.value) (all_of pairs)))
    (where_numbers cond)
body_numbers (grammar.delete table cond) = where_numbers cond
body_numbers (grammar.set name true value) = setting_numbers value
body_numbers (grammar.set name false value) = setting_numbers value

semicolon_numbers : (b : Bool) → numbers (semicolon_tokens b) ≡ []
semicolon_numbers true = refl
semicolon_numbers false = refl

text_by : (x : Option Body) (b : Bool) → numbers (text_tokens (record { body = x; semicolon = b })) ≡ parameters (text_tree (record { body = x; semicolon = b }))
text_by None b = semicolon_numbers b
text_by (Some x) b = first (body_tokens x) (semicolon_tokens b) (parameters (body_tree x)) (body_numbers x) (semicolon_numbers b)

pub text_numbers : (x : Text) → numbers (text_tokens x) ≡ parameters (text_tree x)
text_numbers x = text_by x.body x.semicolon
