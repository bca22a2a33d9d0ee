-- What a text spells is a statement that has a text.
use Rattle.std.proofs.Common.{◌≡◌, ℕ, zero, suc, Bool, true, false, List, [], ◌∷◌, ◌++◌, map, refl, sym, ap, ◌∙◌, subst}
use Rattle.std.specs.Prelude.{◌&&◌, ◌||◌, Option, Some, None, option_map, ◌^◌, if◌then◌else◌}
use Rattle.std.specs.List.{flat_map, list_all, AllByRecursion}
use Rattle.std.proofs.lemmas.Bool.{lt-ltb}
use Rattle.sql_tokens.specs.declared.keyword.Keyword.{Keyword}
use Rattle.sql_tokens.specs.declared.keyword.Keyword.TheVariants as word
use Rattle.sql_tokens.specs.declared.sign.Sign.TheVariants as sign
use Rattle.sql_tokens.specs.declared.token.Token.{Token}
use Rattle.sql_tokens.specs.declared.token.Token.TheVariants as t
use Rattle.sql_tree.specs.declared.condition.Op.{Op}
use Rattle.sql_tree.specs.declared.condition.Op.TheVariants as op
use Rattle.sql_tree.specs.declared.condition.Operand.{Operand}
use Rattle.sql_tree.specs.declared.condition.Cond as trees
use Rattle.sql_tree.specs.declared.condition.Cond.TheVariants as tree
use Rattle.sql_tree.specs.declared.condition.Cond.TheOpen.{Cond-F}
use Rattle.sql_tree.specs.declared.condition.Cond.TheFolds.{fold-roll-Cond}
use Rattle.sql_tree.specs.declared.statement.OrderKey.{OrderKey}
use Rattle.sql_tree.specs.declared.statement.Statement.{Statement}
use Rattle.sql_tree.specs.Parts as parts
use Rattle.sql_tree.specs.Parts.{optional, listed, Spelled, name_tokens, Column, column_tokens, column_name, Value, value_tokens, value_operand, Left, left_tokens, left_operand, op_token}
use Rattle.sql_tree.specs.Conditions as conditions
use Rattle.sql_tree.specs.Conditions.{Side, side_tokens, side_operand, Test, test_tokens, test_tree, not_tokens, not_tree, and_of, or_of, Cond, Conj, Neg, cond_tokens, conj_tokens, neg_tokens, cond_parts, conj_parts, neg_tree, cond_tree}
use Rattle.sql_tree.specs.Grammar as grammar
use Rattle.sql_tree.specs.Grammar.{Item, item_tokens, item_tree, label_tokens, label_name, Items, items_tokens, items_tree, Key, key_tokens, key_tree, Direction, is_descending, Some1, all_of, order_tokens, Bound, where_tokens, names_tokens, row_tokens, Pair, pair_tokens, pair_tree, Setting, setting_tokens, setting_operand, Body, body_tokens, body_tree, Text, text_tokens, text_tree}
use Rattle.sql_tree.specs.Shapes.{shape_step, quoted, operand_shape, commas, in_parens, Shape, child, shape, label_shape, item_shape, items_shape, key_shape, order_shape, bound_shape, where_shape, pair_shape, row_shape, printed}
use Rattle.sql_tree.specs.WellFormed.{is_value, is_setting, is_left, has_one, has_two, shaped_step, is_shaped, all_shaped, is_row, is_bound, has_items, has_names, is_grammatical}
use Rattle.sql_tree.specs.Laws.{IsStatement, IsPossible}
use Rattle.sql_tree.specs.Spelling.{TextSpells}
use Rattle.sql_tree.proofs.Layers.{shape-And, shape-Or, shape-Compare, shape-Within, shape-Null}
use Rattle.sql_derivations.proofs.Possible.{Possible, lexed_possible, word_possible, sign_possible, one_possible, thirty_three_possible, count_possible, substr_possible, name_text, text_possible, quoted_possible}

-- ---- grammatical

value_is : (v : Value) → is_value (value_operand v) ≡ true
value_is (parts.text s) = refl
value_is (parts.number n) = refl
value_is (parts.plus n) = refl
value_is (parts.minus n) = refl
value_is parts.null = refl
value_is (parts.parameter n) = refl

left_is : (l : Left) → is_left (left_operand l) ≡ true
left_is (parts.column c) = refl
left_is (parts.substr c) = refl

all_mapped : {A B : Type 0} (f : A → B) (good : B → Bool) → ((a : A) → good (f a) ≡ true) → (xs : List A) → list_all good (map f xs) ≡ true
all_mapped f good is [] = refl
all_mapped f good is (x ∷ xs) = λ i. is x i && all_mapped f good is xs i

row_is : (r : Some1 Value) → is_row (map value_operand (all_of r)) ≡ true
row_is r = all_mapped value_operand is_value value_is (all_of r)

shaped-Not : (c : trees.Cond) → is_shaped (tree.Not c) ≡ is_shaped c
shaped-Not c = ap is_shaped (sym (tree.rolls-Not c)) ∙ fold-roll-Cond Bool shaped_step (Cond-F.Not c)

shaped-Compare : (l : Operand) (o : Op) (r : Operand) → is_shaped (tree.Compare l o r) ≡ shaped_step (Cond-F.Compare l o r)
shaped-Compare l o r = ap is_shaped (sym (tree.rolls-Compare l o r)) ∙ fold-roll-Cond Bool shaped_step (Cond-F.Compare l o r)

shaped-Within : (l : Operand) (list : List Operand) → is_shaped (tree.Within l list) ≡ (is_left l && (has_one list && list_all is_value list))
shaped-Within l list = ap is_shaped (sym (tree.rolls-Within l list)) ∙ fold-roll-Cond Bool shaped_step (Cond-F.Within l list)

shaped-Null : (c : List ℕ) → is_shaped (tree.Null c) ≡ true
shaped-Null c = ap is_shaped (sym (tree.rolls-Null c)) ∙ fold-roll-Cond Bool shaped_step (Cond-F.Null c)

shaped-And : (all : List trees.Cond) → is_shaped (tree.And all) ≡ (has_two (map is_shaped all) && list_all (λ b. b) (map is_shaped all))
shaped-And all = ap is_shaped (sym (tree.rolls-And all)) ∙ fold-roll-Cond Bool shaped_step (Cond-F.And all)

shaped-Or : (all : List trees.Cond) → is_shaped (tree.Or all) ≡ (has_two (map is_shaped all) && list_all (λ b. b) (map is_shaped all))
shaped-Or all = ap is_shaped (sym (tree.rolls-Or all)) ∙ fold-roll-Cond Bool shaped_step (Cond-F.Or all)

negated_is : (b : Bool) (c : trees.Cond) → is_shaped c ≡ true → is_shaped (not_tree b c) ≡ true
negated_is true c e = shaped-Not c ∙ e
negated_is false c e = e

or_true : (a : Bool) → (a || true) ≡ true
or_true true = refl
or_true false = refl

test_is : (x : Test) → is_shaped (test_tree x) ≡ true
test_is (conditions.compare l o s) = shaped-Compare (left_operand l) o (side_operand s) ∙ ap (λ b. b || is_left (side_operand s)) (left_is l)
test_is (conditions.flipped v o l) = shaped-Compare (value_operand v) o (left_operand l) ∙ ap (λ b. is_left (value_operand v) || b) (left_is l) ∙ or_true (is_left (value_operand v))
test_is (conditions.within l b v more) =
    negated_is b _ (shaped-Within (left_operand l) (map value_operand (v ∷ more)) ∙ (λ i. left_is l i && row_is (record { first = v; more = more }) i))
test_is (conditions.null c b) = negated_is b _ (shaped-Null (column_name c))

list_same : (xs : List trees.Cond) → list_all (λ b. b) (map is_shaped xs) ≡ list_all is_shaped xs
list_same [] = refl
list_same (x ∷ xs) = ap (λ b. is_shaped x && b) (list_same xs)

and_true : (a b : Bool) → a ≡ true → b ≡ true → (a && b) ≡ true
and_true a b e f = λ i. e i && f i

and_first : (a b : Bool) → (a && b) ≡ true → a ≡ true
and_first true b e = refl
and_first false b e = cc

and_of_is : (xs : List trees.Cond) → has_one xs ≡ true → list_all is_shaped xs ≡ true → is_shaped (and_of xs) ≡ true
and_of_is [] h e = cc
and_of_is (x ∷ []) h e = and_first (is_shaped x) true e
and_of_is (x ∷ y ∷ xs) h e = shaped-And (x ∷ y ∷ xs) ∙ list_same (x ∷ y ∷ xs) ∙ e

or_of_is : (xs : List trees.Cond) → has_one xs ≡ true → list_all is_shaped xs ≡ true → is_shaped (or_of xs) ≡ true
or_of_is [] h e = cc
or_of_is (x ∷ []) h e = and_first (is_shaped x) true e
or_of_is (x ∷ y ∷ xs) h e = shaped-Or (x ∷ y ∷ xs) ∙ list_same (x ∷ y ∷ xs) ∙ e

some_conj : (c : Conj) → has_one (conj_parts c) ≡ true
some_conj (conditions.single n) = refl
some_conj (conditions.and n c) = refl

some_cond : (d : Cond) → has_one (cond_parts d) ≡ true
some_cond (conditions.only c) = refl
some_cond (conditions.or c d) = refl

mutual
  cond_is : (d : Cond) → list_all is_shaped (cond_parts d) ≡ true
  cond_is (conditions.only c) = and_true (is_shaped (and_of (conj_parts c))) true (and_of_is (conj_parts c) (some_conj c) (conj_is c)) refl
  cond_is (conditions.or c d) = and_true (is_shaped (and_of (conj_parts c))) (list_all is_shaped (cond_parts d)) (and_of_is (conj_parts c) (some_conj c) (conj_is c)) (cond_is d)

  conj_is : (c : Conj) → list_all is_shaped (conj_parts c) ≡ true
  conj_is (conditions.single n) = and_true (is_shaped (neg_tree n)) true (neg_is n) refl
  conj_is (conditions.and n c) = and_true (is_shaped (neg_tree n)) (list_all is_shaped (conj_parts c)) (neg_is n) (conj_is c)

  neg_is : (n : Neg) → is_shaped (neg_tree n) ≡ true
  neg_is (conditions.not n) = shaped-Not (neg_tree n) ∙ neg_is n
  neg_is (conditions.parens d) = or_of_is (cond_parts d) (some_cond d) (cond_is d)
  neg_is (conditions.test x) = test_is x

where_is : (o : Option Cond) → all_shaped (option_map cond_tree o) ≡ true
where_is None = refl
where_is (Some d) = or_of_is (cond_parts d) (some_cond d) (cond_is d)

items_is : (x : Items) → has_items (items_tree x) ≡ true
items_is grammar.all = refl
items_is (grammar.count label) = refl
items_is (grammar.columns i more) = refl

bound_is : (o : Option Bound) → is_bound (option_map (λ (b : Bound). b.number) o) ≡ true
bound_is None = refl
bound_is (Some b) = lt-ltb b.number (2 ^ 63) b.below

names_is : (o : Option (Some1 Spelled)) → has_names (option_map (λ (l : Some1 Spelled). map (λ (n : Spelled). n.name) (all_of l)) o) ≡ true
names_is None = refl
names_is (Some l) = refl

minus_is : (n : ℕ) → is_setting (setting_operand (grammar.minus n)) ≡ true
minus_is n = refl

setting_is : (s : Setting) → is_setting (setting_operand s) ≡ true
setting_is (grammar.text s) = refl
setting_is (grammar.number n) = refl
setting_is (grammar.plus n) = refl
setting_is (grammar.minus n) = refl
setting_is (grammar.named n) = refl

body_is : (b : Body) → is_grammatical (body_tree b) ≡ true
body_is (grammar.select q) = λ i. items_is q.items i && (where_is q.cond i && (bound_is q.limit i && bound_is q.offset i))
body_is (grammar.insert table names rows) = λ i. names_is names i && all_mapped (λ (r : Some1 Value). map value_operand (all_of r)) is_row row_is (all_of rows) i
body_is (grammar.update table pairs cond) = λ i. all_mapped pair_tree (λ p. is_value p.value) (λ (p : Pair). value_is p.value) (all_of pairs) i && where_is cond i
body_is (grammar.delete table cond) = where_is cond
body_is (grammar.set name to value) = setting_is value

text_by : (b : Option Body) (semicolon : Bool) → is_grammatical (text_tree (record { body = b; semicolon = semicolon })) ≡ true
text_by None semicolon = refl
text_by (Some b) semicolon = body_is b

text_is : (x : Text) → is_grammatical (text_tree x) ≡ true
text_is x = text_by x.body x.semicolon

-- ---- possible

append : (xs ys : List Token) → Possible xs → Possible ys → Possible (xs ++ ys)
append [] ys p q = q
append (x ∷ xs) ys p q = (p.0, append xs ys p.1 q)

front : (xs ys : List Token) → Possible (xs ++ ys) → Possible xs
front [] ys p = tt
front (x ∷ xs) ys p = (p.0, front xs ys p.1)

back : (xs ys : List Token) → Possible (xs ++ ys) → Possible ys
back [] ys p = p
back (x ∷ xs) ys p = back xs ys p.1

name_fine : (n : Spelled) → Possible (name_tokens n) → Possible (quoted n.name)
name_fine n p = (quoted_possible n.name n.quoted p.0, tt)

column_by : (q : Option Spelled) (c : Spelled) → Possible (optional (λ q. name_tokens q ++ t.Sign sign.Dot ∷ []) q ++ name_tokens c) → Possible (quoted c.name)
column_by None c p = name_fine c p
column_by (Some q) c p = name_fine c p.1.1

column_fine : (c : Column) → Possible (column_tokens c) → Possible (quoted (column_name c))
column_fine c p = column_by c.qualifier c.column p

value_fine : (v : Value) → Possible (value_tokens v) → Possible (operand_shape (value_operand v))
value_fine (parts.text s) p = p
value_fine (parts.number n) p = p
value_fine (parts.plus n) p = p.1
value_fine (parts.minus zero) p = p.1
value_fine (parts.minus (suc n)) p = p
value_fine parts.null p = p
value_fine (parts.parameter n) p = p

in_parens_fine : (xs : List Token) → Possible xs → Possible (in_parens xs)
in_parens_fine xs p = (sign_possible sign.Open, append xs (t.Sign sign.Close ∷ []) p (sign_possible sign.Close, tt))

abbrev substr_tail : List Token
substr_tail = t.Sign sign.Comma ∷ t.Number 1 ∷ t.Sign sign.Comma ∷ t.Number 33 ∷ t.Sign sign.Close ∷ []

left_fine : (l : Left) → Possible (left_tokens l) → Possible (operand_shape (left_operand l))
left_fine (parts.column c) p = column_fine c p
left_fine (parts.substr c) p =
    let column = column_fine c (front (column_tokens c) substr_tail p.1.1) in
    let rest : Possible substr_tail = (sign_possible sign.Comma, (one_possible, (sign_possible sign.Comma, (thirty_three_possible, (sign_possible sign.Close, tt))))) in
    (substr_possible, (sign_possible sign.Open, append (quoted (column_name c)) substr_tail column rest))

side_fine : (s : Side) → Possible (side_tokens s) → Possible (operand_shape (side_operand s))
side_fine (conditions.left l) p = left_fine l p
side_fine (conditions.value v) p = value_fine v p

op_fine : (o : Op) → IsPossible (op_token o)
op_fine op.Eq = sign_possible sign.Equal
op_fine op.Ne = sign_possible sign.NotEqual
op_fine op.Lt = sign_possible sign.Less
op_fine op.Le = sign_possible sign.AtMost
op_fine op.Gt = sign_possible sign.Greater
op_fine op.Ge = sign_possible sign.AtLeast

-- parts with a comma between two
module _ {A B : Type 0} (tok : A → List Token) (made : A → B) (of : B → List Token) (fine : (a : A) → Possible (tok a) → Possible (of (made a))) where
  others_fine : (more : List A) → Possible (flat_map (λ b. t.Sign sign.Comma ∷ tok b) more) → Possible (flat_map (λ b. t.Sign sign.Comma ∷ of b) (map made more))
  others_fine [] p = tt
  others_fine (x ∷ more) p = (
    p.0,
    append (of (made x)) (flat_map (λ b. t.Sign sign.Comma ∷ of b) (map made more)) (fine x (front (tok x) _ p.1)) (others_fine more (back (tok x) _ p.1)),
  )

  list_fine : (a : A) (more : List A) → Possible (listed tok a more) → Possible (commas of (map made (a ∷ more)))
  list_fine a more p = append (of (made a)) _ (fine a (front (tok a) _ p)) (others_fine more (back (tok a) _ p))

row_fine : (r : Some1 Value) → Possible (row_tokens r) → Possible (row_shape (map value_operand (all_of r)))
row_fine r p = in_parens_fine _ (list_fine value_tokens value_operand operand_shape value_fine r.first r.more (front (listed value_tokens r.first r.more) _ p.1))

-- a tree's own tokens
abbrev Fine : trees.Cond → Type 0
Fine c = Possible (shape c).1

child_of : (s : Shape) → Possible s.1 → Possible (child s)
child_of (true, xs) p = in_parens_fine xs p
child_of (false, xs) p = p

shape-not : (c : trees.Cond) → shape (tree.Not c) ≡ (false, t.Word word.Not ∷ child (shape c))
shape-not c = ap shape (sym (tree.rolls-Not c)) ∙ fold-roll-Cond Shape shape_step (Cond-F.Not c)

fine_not : (c : trees.Cond) → Fine c → Fine (tree.Not c)
fine_not c p = subst (λ (s : Shape). Possible s.1) (sym (shape-not c)) (word_possible word.Not, child_of (shape c) p)

negated_fine : (b : Bool) (c : trees.Cond) → Fine c → Fine (not_tree b c)
negated_fine true c p = fine_not c p
negated_fine false c p = p

test_fine : (x : Test) → Possible (test_tokens x) → Fine (test_tree x)
test_fine (conditions.compare l o s) p =
    let q = back (left_tokens l) _ p in
    subst (λ (s : Shape). Possible s.1) (sym (shape-Compare (left_operand l) o (side_operand s)))
    (append (operand_shape (left_operand l)) _ (left_fine l (front (left_tokens l) _ p)) (op_fine o, side_fine s q.1))
test_fine (conditions.flipped v o l) p =
    let q = back (value_tokens v) _ p in
    subst (λ (s : Shape). Possible s.1) (sym (shape-Compare (value_operand v) o (left_operand l)))
    (append (operand_shape (value_operand v)) _ (value_fine v (front (value_tokens v) _ p)) (op_fine o, left_fine l q.1))
test_fine (conditions.within l b v more) p =
    let q = back (not_tokens b) _ (back (left_tokens l) _ p) in
    negated_fine b _
    (subst (λ (s : Shape). Possible s.1) (sym (shape-Within (left_operand l) (map value_operand (v ∷ more))))
    (append (operand_shape (left_operand l)) _ (left_fine l (front (left_tokens l) _ p)) (word_possible word.In, row_fine (record { first = v; more = more }) q.1)))
test_fine (conditions.null c b) p =
    let rest : Possible (t.Word word.Is ∷ t.Word word.Null ∷ []) = (word_possible word.Is, (word_possible word.Null, tt)) in
    negated_fine b _
    (subst (λ (s : Shape). Possible s.1) (sym (shape-Null (column_name c)))
    (append (quoted (column_name c)) (t.Word word.Is ∷ t.Word word.Null ∷ []) (column_fine c (front (column_tokens c) _ p)) rest))

-- ---- conditions

abbrev AllFine : List trees.Cond → Type 0
AllFine all = AllByRecursion Fine all

joined_fine : (w : Keyword) (all : List trees.Cond) → AllFine all → Possible (flat_map (λ s. t.Word w ∷ child s) (map shape all))
joined_fine w [] p = tt
joined_fine w (x ∷ all) p = (word_possible w, append (child (shape x)) _ (child_of (shape x) p.0) (joined_fine w all p.1))

and_fine : (all : List trees.Cond) → AllFine all → Fine (and_of all)
and_fine [] p = subst (λ (s : Shape). Possible s.1) (sym (shape-And [])) tt
and_fine (x ∷ []) p = p.0
and_fine (x ∷ y ∷ all) p = subst (λ (s : Shape). Possible s.1) (sym (shape-And (x ∷ y ∷ all))) (append (child (shape x)) _ (child_of (shape x) p.0) (joined_fine word.And (y ∷ all) p.1))

or_fine : (all : List trees.Cond) → AllFine all → Fine (or_of all)
or_fine [] p = subst (λ (s : Shape). Possible s.1) (sym (shape-Or [])) tt
or_fine (x ∷ []) p = p.0
or_fine (x ∷ y ∷ all) p = subst (λ (s : Shape). Possible s.1) (sym (shape-Or (x ∷ y ∷ all))) (append (child (shape x)) _ (child_of (shape x) p.0) (joined_fine word.Or (y ∷ all) p.1))

mutual
  cond_fine : (d : Cond) → Possible (cond_tokens d) → AllFine (cond_parts d)
  cond_fine (conditions.only c) p = (and_fine (conj_parts c) (conj_fine c p), tt)
  cond_fine (conditions.or c d) p = (and_fine (conj_parts c) (conj_fine c (front (conj_tokens c) _ p)), cond_fine d (back (conj_tokens c) _ p).1)

  conj_fine : (c : Conj) → Possible (conj_tokens c) → AllFine (conj_parts c)
  conj_fine (conditions.single n) p = (neg_fine n p, tt)
  conj_fine (conditions.and n c) p = (neg_fine n (front (neg_tokens n) _ p), conj_fine c (back (neg_tokens n) _ p).1)

  neg_fine : (n : Neg) → Possible (neg_tokens n) → Fine (neg_tree n)
  neg_fine (conditions.not n) p = fine_not (neg_tree n) (neg_fine n p.1)
  neg_fine (conditions.parens d) p = or_fine (cond_parts d) (cond_fine d (front (cond_tokens d) _ p.1))
  neg_fine (conditions.test x) p = test_fine x p

where_fine : (o : Option Cond) → Possible (where_tokens o) → Possible (where_shape (option_map cond_tree o))
where_fine None p = tt
where_fine (Some d) p = (word_possible word.Where, or_fine (cond_parts d) (cond_fine d p.1))

-- ---- statements

label_fine : (o : Option Spelled) → Possible (label_tokens o) → Possible (label_shape (label_name o))
label_fine None p = tt
label_fine (Some n) p = (word_possible word.As, name_fine n p.1)

item_fine : (i : Item) → Possible (item_tokens i) → Possible (item_shape (item_tree i))
item_fine i p = append (quoted (column_name i.column)) _ (column_fine i.column (front (column_tokens i.column) _ p)) (label_fine i.label (back (column_tokens i.column) _ p))

items_fine : (x : Items) → Possible (items_tokens x) → Possible (items_shape (items_tree x))
items_fine grammar.all p = p
items_fine (grammar.count label) p = (count_possible, (sign_possible sign.Open, (sign_possible sign.Star, (sign_possible sign.Close, label_fine label p.1.1.1.1))))
items_fine (grammar.columns i more) p = list_fine item_tokens item_tree item_shape item_fine i more p

key_by : (d : Direction) → Possible (if is_descending d then t.Word word.Desc ∷ [] else [])
key_by grammar.unsaid = tt
key_by grammar.ascending = tt
key_by grammar.descending = (word_possible word.Desc, tt)

key_fine : (k : Key) → Possible (key_tokens k) → Possible (key_shape (key_tree k))
key_fine k p = append (quoted (column_name k.column)) _ (column_fine k.column (front (column_tokens k.column) _ p)) (key_by k.direction)

abbrev keys_of : Option (Some1 Key) → List OrderKey
keys_of o = elim o [ None ↦ [] | Some o ↦ map key_tree (all_of o) ]

order_fine : (o : Option (Some1 Key)) → Possible (optional order_tokens o) → Possible (order_shape (keys_of o))
order_fine None p = tt
order_fine (Some o) p = (word_possible word.Order, (word_possible word.By, list_fine key_tokens key_tree key_shape key_fine o.first o.more p.1.1))

bound_fine : (w : Keyword) (o : Option Bound) → Possible (optional (λ (b : Bound). t.Word w ∷ t.Number b.number ∷ []) o) → Possible (bound_shape w (option_map (λ (b : Bound). b.number) o))
bound_fine w None p = tt
bound_fine w (Some b) p = p

names_fine : (o : Option (Some1 Spelled)) → Possible (optional names_tokens o)
    → Possible (optional (λ names. in_parens (commas quoted names)) (option_map (λ (l : Some1 Spelled). map (λ (n : Spelled). n.name) (all_of l)) o))
names_fine None p = tt
names_fine (Some l) p = in_parens_fine (commas quoted (map (λ (n : Spelled). n.name) (all_of l))) (list_fine name_tokens (λ (n : Spelled). n.name) quoted name_fine l.first l.more (front (listed name_tokens l.first l.more) (t.Sign sign.Close ∷ []) p.1))

pair_fine : (x : Pair) → Possible (pair_tokens x) → Possible (pair_shape (pair_tree x))
pair_fine x p = (quoted_possible x.column.name x.column.quoted p.0, (sign_possible sign.Equal, value_fine x.value p.1.1))

setting_fine : (s : Setting) → Possible (setting_tokens s) → Possible (operand_shape (setting_operand s))
setting_fine (grammar.text s) p = p
setting_fine (grammar.number n) p = p
setting_fine (grammar.plus n) p = p.1
setting_fine (grammar.minus zero) p = p.1
setting_fine (grammar.minus (suc n)) p = p
setting_fine (grammar.named n) p = (text_possible n.name (name_text n.name n.quoted p.0), tt)

body_fine : (b : Body) → Possible (body_tokens b) → Possible (printed (body_tree b))
body_fine (grammar.select q) p =
    let rest = (back (items_tokens q.items) _ p.1).1 in
    let later = back (where_tokens q.cond) _ rest.1 in
    let late = back (optional order_tokens q.order) _ later in (
      word_possible word.Select,
      append (items_shape (items_tree q.items)) _ (items_fine q.items (front (items_tokens q.items) _ p.1)) (
        word_possible word.From,
        (
          quoted_possible q.table.name q.table.quoted rest.0,
          append (where_shape (option_map cond_tree q.cond)) _ (where_fine q.cond (front (where_tokens q.cond) _ rest.1))
              (append (order_shape (keys_of q.order)) _ (order_fine q.order (front (optional order_tokens q.order) _ later))
              (append (bound_shape word.Limit (option_map (λ (b : Bound). b.number) q.limit)) _ (bound_fine word.Limit q.limit (front _ _ late)) (bound_fine word.Offset q.offset (back (optional (λ (b : Bound). t.Word word.Limit ∷ t.Number b.number ∷ []) q.limit) _ late)))),
        ),
      ),
    )
body_fine (grammar.insert table names rows) p =
    let rest = p.1.1.1 in (
      word_possible word.Insert,
      (
        word_possible word.Into,
        (
          quoted_possible table.name table.quoted p.1.1.0,
          append (optional (λ names. in_parens (commas quoted names)) (option_map (λ (l : Some1 Spelled). map (λ (n : Spelled). n.name) (all_of l)) names)) _ (names_fine names (front (optional names_tokens names) _ rest))
              (word_possible word.Values, list_fine row_tokens (λ (r : Some1 Value). map value_operand (all_of r)) row_shape row_fine rows.first rows.more (back (optional names_tokens names) _ rest).1),
        ),
      ),
    )
body_fine (grammar.update table pairs cond) p =
    let rest = p.1.1.1 in (
      word_possible word.Update,
      (
        quoted_possible table.name table.quoted p.1.0,
        (
          word_possible word.Set,
          append (commas pair_shape (map pair_tree (all_of pairs))) _ (list_fine pair_tokens pair_tree pair_shape pair_fine pairs.first pairs.more (front (listed pair_tokens pairs.first pairs.more) _ rest))
              (where_fine cond (back (listed pair_tokens pairs.first pairs.more) _ rest)),
        ),
      ),
    )
body_fine (grammar.delete table cond) p = (word_possible word.Delete, (word_possible word.From, (quoted_possible table.name table.quoted p.1.1.0, where_fine cond p.1.1.1)))
body_fine (grammar.set name to value) p = (word_possible word.Set, (quoted_possible name.name name.quoted p.1.0, (sign_possible sign.Equal, setting_fine value p.1.1.1)))

text_fine : (b : Option Body) (semicolon : Bool) → Possible (text_tokens (record { body = b; semicolon = semicolon })) → Possible (printed (text_tree (record { body = b; semicolon = semicolon })))
text_fine None semicolon p = tt
text_fine (Some b) semicolon p = body_fine b (front (body_tokens b) _ p)

pub spelled_is_statement : (text : List ℕ) (tree : Statement) → TextSpells text tree → IsStatement tree
spelled_is_statement text tree s =
    let u = s.spells in
    let possible = subst Possible u.derives (lexed_possible 0 text s.placed None s.lexes) in
    record {
      grammatical = ap is_grammatical u.is ∙ text_is u.by;
      gapless = u.gapless;
      settable = u.settable;
      possible = subst (λ x. Possible (printed x)) (sym u.is) (text_fine u.by.body u.by.semicolon possible);
    }
