-- The names before dots are the names that stand before columns.
use Rattle.std.proofs.Common.{◌≡◌, ℕ, Bool, true, false, List, [], ◌∷◌, ◌++◌, append_assoc, append-nil, refl, sym, ap, ◌∙◌}
use Rattle.std.specs.Prelude.{Option, Some, None}
use Rattle.std.specs.List.{flat_map}
use Rattle.sql_tokens.specs.declared.keyword.Keyword.TheVariants as word
use Rattle.sql_tokens.specs.declared.sign.Sign.TheVariants as sign
use Rattle.sql_tokens.specs.declared.token.Token.{Token}
use Rattle.sql_tokens.specs.declared.token.Token.TheVariants as t
use Rattle.sql_tree.specs.declared.condition.Op.{Op}
use Rattle.sql_tree.specs.declared.condition.Op.TheVariants as op
use Rattle.sql_tree.specs.Parts as parts
use Rattle.sql_tree.specs.Parts.{optional, listed, Spelled, name_tokens, Column, column_tokens, qualifiers, Value, value_tokens, Left, left_tokens, left_qualifiers, op_token}
use Rattle.sql_tree.specs.Conditions as conditions
use Rattle.sql_tree.specs.Conditions.{Side, side_tokens, side_qualifiers, Test, test_tokens, test_qualifiers, not_tokens, Cond, Conj, Neg, cond_tokens, conj_tokens, neg_tokens, cond_qualifiers, conj_qualifiers, neg_qualifiers}
use Rattle.sql_tree.specs.Grammar as grammar
use Rattle.sql_tree.specs.Grammar.{Item, item_tokens, label_tokens, Items, items_tokens, items_qualifiers, Key, key_tokens, direction_tokens, Direction, Some1, order_tokens, Bound, where_tokens, names_tokens, row_tokens, Pair, pair_tokens, Setting, setting_tokens, Body, body_tokens, body_qualifiers, text_tokens, semicolon_tokens}
use Rattle.sql_readers.specs.Passes.{is_dot, dot_first, named, before_dots}

-- parts that no dot parts
apart : (xs ys : List Token) → dot_first ys ≡ false → before_dots (xs ++ ys) ≡ before_dots xs ++ before_dots ys
apart [] ys e = refl
apart (x ∷ []) ys e = (λ i. named (e i) x ++ before_dots ys) ∙ ap (λ w. w ++ before_dots ys) (sym (append-nil (named false x)))
apart (x ∷ y ∷ xs) ys e = ap (λ w. named (is_dot y) x ++ w) (apart (y ∷ xs) ys e) ∙ sym (append_assoc (named (is_dot y) x) (before_dots (y ∷ xs)) (before_dots ys))

-- the same with what the parts tell
split : (xs ys : List Token) (a b : List (List ℕ)) → dot_first ys ≡ false → before_dots xs ≡ a → before_dots ys ≡ b → before_dots (xs ++ ys) ≡ a ++ b
split xs ys a b e f g = apart xs ys e ∙ (λ i. f i ++ g i)

-- where the first, or the second, has none
second : (xs ys : List Token) (b : List (List ℕ)) → dot_first ys ≡ false → before_dots xs ≡ [] → before_dots ys ≡ b → before_dots (xs ++ ys) ≡ b
second xs ys b e f g = split xs ys [] b e f g

first : (xs ys : List Token) (a : List (List ℕ)) → dot_first ys ≡ false → before_dots xs ≡ a → before_dots ys ≡ [] → before_dots (xs ++ ys) ≡ a
first xs ys a e f g = split xs ys a [] e f g ∙ append-nil a

after_first : {A : Type 0} (tok : A → List Token) (more : List A) → dot_first (flat_map (λ b. t.Sign sign.Comma ∷ tok b) more) ≡ false
after_first tok [] = refl
after_first tok (x ∷ more) = refl

others : {A : Type 0} (tok : A → List Token) (of : A → List (List ℕ)) (is : (a : A) → before_dots (tok a) ≡ of a) (more : List A) → before_dots (flat_map (λ b. t.Sign sign.Comma ∷ tok b) more) ≡ flat_map of more
others tok of is [] = refl
others tok of is (x ∷ more) = split (tok x) (flat_map (λ b. t.Sign sign.Comma ∷ tok b) more) (of x) (flat_map of more) (after_first tok more) (is x) (others tok of is more)

list_dots : {A : Type 0} (tok : A → List Token) (of : A → List (List ℕ)) (is : (a : A) → before_dots (tok a) ≡ of a) (a : A) (more : List A) → before_dots (listed tok a more) ≡ of a ++ flat_map of more
list_dots tok of is a more = split (tok a) (flat_map (λ b. t.Sign sign.Comma ∷ tok b) more) (of a) (flat_map of more) (after_first tok more) (is a) (others tok of is more)

abbrev none_of : {A : Type 0} → A → List (List ℕ)
none_of a = []

no_others : {A : Type 0} (more : List A) → flat_map none_of more ≡ []
no_others [] = refl
no_others (x ∷ more) = no_others more

list_none : {A : Type 0} (tok : A → List Token) (is : (a : A) → before_dots (tok a) ≡ []) (a : A) (more : List A) → before_dots (listed tok a more) ≡ []
list_none tok is a more = list_dots tok none_of is a more ∙ no_others more

-- ---- columns and values

column_by : (q : Option Spelled) (c : Spelled) → before_dots (optional (λ q. name_tokens q ++ t.Sign sign.Dot ∷ []) q ++ name_tokens c) ≡ elim q [ None ↦ [] | Some q ↦ q.name ∷ [] ]
column_by None c = refl
column_by (Some q) c = refl

column_dots : (c : Column) → before_dots (column_tokens c) ≡ qualifiers c
column_dots c = column_by c.qualifier c.column

value_dots : (v : Value) → before_dots (value_tokens v) ≡ []
value_dots (parts.text s) = refl
value_dots (parts.number n) = refl
value_dots (parts.plus n) = refl
value_dots (parts.minus n) = refl
value_dots parts.null = refl
value_dots (parts.parameter n) = refl

left_dots : (l : Left) → before_dots (left_tokens l) ≡ left_qualifiers l
left_dots (parts.column c) = column_dots c
left_dots (parts.substr c) = first (column_tokens c) _ (qualifiers c) refl (column_dots c) refl

side_dots : (s : Side) → before_dots (side_tokens s) ≡ side_qualifiers s
side_dots (conditions.left l) = left_dots l
side_dots (conditions.value v) = value_dots v

row_dots : (r : Some1 Value) → before_dots (row_tokens r) ≡ []
row_dots r = first (listed value_tokens r.first r.more) (t.Sign sign.Close ∷ []) [] refl (list_none value_tokens value_dots r.first r.more) refl

op_first : (o : Op) (ts : List Token) → dot_first (op_token o ∷ ts) ≡ false
op_first op.Eq ts = refl
op_first op.Ne ts = refl
op_first op.Lt ts = refl
op_first op.Le ts = refl
op_first op.Gt ts = refl
op_first op.Ge ts = refl

op_dots : (o : Op) (ts : List Token) → before_dots (op_token o ∷ ts) ≡ before_dots ts
op_dots op.Eq ts = refl
op_dots op.Ne ts = refl
op_dots op.Lt ts = refl
op_dots op.Le ts = refl
op_dots op.Gt ts = refl
op_dots op.Ge ts = refl

not_first : (b : Bool) (ts : List Token) → dot_first ts ≡ false → dot_first (not_tokens b ++ ts) ≡ false
not_first true ts e = refl
not_first false ts e = e

not_dots : (b : Bool) (ts : List Token) → before_dots (not_tokens b ++ ts) ≡ before_dots ts
not_dots true ts = refl
not_dots false ts = refl

test_dots : (x : Test) → before_dots (test_tokens x) ≡ test_qualifiers x
test_dots (conditions.compare l o s) = split (left_tokens l) _ (left_qualifiers l) (side_qualifiers s) (op_first o (side_tokens s)) (left_dots l) (op_dots o (side_tokens s) ∙ side_dots s)
test_dots (conditions.flipped v o l) = second (value_tokens v) _ (left_qualifiers l) (op_first o (left_tokens l)) (value_dots v) (op_dots o (left_tokens l) ∙ left_dots l)
test_dots (conditions.within l b v more) = first (left_tokens l) _ (left_qualifiers l) (not_first b _ refl) (left_dots l) (not_dots b _ ∙ row_dots (record { first = v; more = more }))
test_dots (conditions.null c b) = first (column_tokens c) _ (qualifiers c) refl (column_dots c) (not_dots b _)

mutual
  cond_dots : (d : Cond) → before_dots (cond_tokens d) ≡ cond_qualifiers d
  cond_dots (conditions.only c) = conj_dots c
  cond_dots (conditions.or c d) = split (conj_tokens c) _ (conj_qualifiers c) (cond_qualifiers d) refl (conj_dots c) (cond_dots d)

  conj_dots : (c : Conj) → before_dots (conj_tokens c) ≡ conj_qualifiers c
  conj_dots (conditions.single n) = neg_dots n
  conj_dots (conditions.and n c) = split (neg_tokens n) _ (neg_qualifiers n) (conj_qualifiers c) refl (neg_dots n) (conj_dots c)

  neg_dots : (n : Neg) → before_dots (neg_tokens n) ≡ neg_qualifiers n
  neg_dots (conditions.not n) = neg_dots n
  neg_dots (conditions.parens d) = first (cond_tokens d) _ (cond_qualifiers d) refl (cond_dots d) refl
  neg_dots (conditions.test x) = test_dots x

-- ---- statements

label_dots : (o : Option Spelled) → before_dots (label_tokens o) ≡ []
label_dots None = refl
label_dots (Some s) = refl

label_first : (o : Option Spelled) → dot_first (label_tokens o) ≡ false
label_first None = refl
label_first (Some s) = refl

item_dots : (i : Item) → before_dots (item_tokens i) ≡ qualifiers i.column
item_dots i = first (column_tokens i.column) (label_tokens i.label) (qualifiers i.column) (label_first i.label) (column_dots i.column) (label_dots i.label)

items_dots : (x : Items) → before_dots (items_tokens x) ≡ items_qualifiers x
items_dots grammar.all = refl
items_dots (grammar.count None) = refl
items_dots (grammar.count (Some s)) = refl
items_dots (grammar.columns i more) = list_dots item_tokens (λ (x : Item). qualifiers x.column) item_dots i more

direction_dots : (d : Direction) → before_dots (direction_tokens d) ≡ []
direction_dots grammar.unsaid = refl
direction_dots grammar.ascending = refl
direction_dots grammar.descending = refl

direction_first : (d : Direction) → dot_first (direction_tokens d) ≡ false
direction_first grammar.unsaid = refl
direction_first grammar.ascending = refl
direction_first grammar.descending = refl

key_dots : (k : Key) → before_dots (key_tokens k) ≡ qualifiers k.column
key_dots k = first (column_tokens k.column) (direction_tokens k.direction) (qualifiers k.column) (direction_first k.direction) (column_dots k.column) (direction_dots k.direction)

abbrev order_qualifiers : Option (Some1 Key) → List (List ℕ)
order_qualifiers o = elim o [ None ↦ [] | Some k ↦ flat_map (λ (k : Key). qualifiers k.column) (grammar.all_of k) ]

order_dots : (o : Option (Some1 Key)) → before_dots (optional order_tokens o) ≡ order_qualifiers o
order_dots None = refl
order_dots (Some o) = list_dots key_tokens (λ (k : Key). qualifiers k.column) key_dots o.first o.more

abbrev filter_qualifiers : Option Cond → List (List ℕ)
filter_qualifiers cond = elim cond [ None ↦ [] | Some c ↦ cond_qualifiers c ]

where_dots : (o : Option Cond) → before_dots (where_tokens o) ≡ filter_qualifiers o
where_dots None = refl
where_dots (Some d) = cond_dots d

where_first : (o : Option Cond) → dot_first (where_tokens o) ≡ false
where_first None = refl
where_first (Some d) = refl

abbrev late : Option Bound → Option Bound → List Token
late x y = optional (λ (b : Bound). t.Word word.Limit ∷ t.Number b.number ∷ []) x ++ optional (λ (b : Bound). t.Word word.Offset ∷ t.Number b.number ∷ []) y

late_dots : (x y : Option Bound) → before_dots (late x y) ≡ []
late_dots None None = refl
late_dots None (Some y) = refl
late_dots (Some x) None = refl
late_dots (Some x) (Some y) = refl

late_first : (x y : Option Bound) → dot_first (late x y) ≡ false
late_first None None = refl
late_first None (Some y) = refl
late_first (Some x) y = refl

later_first : (o : Option (Some1 Key)) (x y : Option Bound) → dot_first (optional order_tokens o ++ late x y) ≡ false
later_first None x y = late_first x y
later_first (Some o) x y = refl

-- a part that may be left out, before others that begin with no dot
tail_first : (o : Option Cond) (ts : List Token) → dot_first ts ≡ false → dot_first (where_tokens o ++ ts) ≡ false
tail_first None ts e = e
tail_first (Some d) ts e = refl

-- a name that no dot follows tells nothing
name_dots : (n : Spelled) (ts : List Token) → dot_first ts ≡ false → before_dots (name_tokens n ++ ts) ≡ before_dots ts
name_dots n ts e = λ i. named (e i) (t.Name n.name n.quoted) ++ before_dots ts

name_alone : (n : Spelled) → before_dots (name_tokens n) ≡ []
name_alone n = refl

pair_dots : (p : Pair) → before_dots (pair_tokens p) ≡ []
pair_dots p = value_dots p.value

setting_dots : (s : Setting) → before_dots (setting_tokens s) ≡ []
setting_dots (grammar.text s) = refl
setting_dots (grammar.number n) = refl
setting_dots (grammar.plus n) = refl
setting_dots (grammar.minus n) = refl
setting_dots (grammar.named n) = refl

names_dots : (o : Option (Some1 Spelled)) (ts : List Token) → dot_first ts ≡ false → before_dots ts ≡ [] → before_dots (optional names_tokens o ++ ts) ≡ []
names_dots None ts e f = f
names_dots (Some l) ts e f = second (names_tokens l) ts [] e (first (listed name_tokens l.first l.more) (t.Sign sign.Close ∷ []) [] refl (list_none name_tokens name_alone l.first l.more) refl) f

names_first : (o : Option (Some1 Spelled)) (ts : List Token) → dot_first ts ≡ false → dot_first (optional names_tokens o ++ ts) ≡ false
names_first None ts e = e
names_first (Some l) ts e = refl

body_dots : (b : Body) → before_dots (body_tokens b) ≡ body_qualifiers b
body_dots (grammar.select q) =
    split (items_tokens q.items) _ (items_qualifiers q.items) (filter_qualifiers q.cond ++ order_qualifiers q.order) refl (items_dots q.items)
    (name_dots q.table _ (tail_first q.cond _ (later_first q.order q.limit q.offset))
    ∙ split (where_tokens q.cond) _ (filter_qualifiers q.cond) (order_qualifiers q.order) (later_first q.order q.limit q.offset) (where_dots q.cond)
    (first (optional order_tokens q.order) (late q.limit q.offset) (order_qualifiers q.order) (late_first q.limit q.offset) (order_dots q.order) (late_dots q.limit q.offset)))
body_dots (grammar.insert table names rows) =
    let values = list_none row_tokens row_dots rows.first rows.more in
    name_dots table _ (names_first names _ refl) ∙ names_dots names _ refl values
body_dots (grammar.update table pairs cond) = second (listed pair_tokens pairs.first pairs.more) (where_tokens cond) (filter_qualifiers cond) (where_first cond) (list_none pair_tokens pair_dots pairs.first pairs.more) (where_dots cond)
body_dots (grammar.delete table cond) = name_dots table (where_tokens cond) (where_first cond) ∙ where_dots cond
body_dots (grammar.set name true value) = setting_dots value
body_dots (grammar.set name false value) = setting_dots value

semicolon_first : (b : Bool) → dot_first (semicolon_tokens b) ≡ false
semicolon_first true = refl
semicolon_first false = refl

semicolon_dots : (b : Bool) → before_dots (semicolon_tokens b) ≡ []
semicolon_dots true = refl
semicolon_dots false = refl

pub text_dots : (x : Body) (semicolon : Bool) → before_dots (text_tokens (record { body = Some x; semicolon = semicolon })) ≡ body_qualifiers x
text_dots x b = first (body_tokens x) (semicolon_tokens b) (body_qualifiers x) (semicolon_first b) (body_dots x) (semicolon_dots b)
