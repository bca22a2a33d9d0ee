-- The canonical tokens of a statement can be read.
use Rattle.std.proofs.Common.{ℕ, suc, pos, negsuc, Bool, true, false, List, [], ◌∷◌, ◌++◌, map, refl, sym, subst}
use Rattle.std.specs.Prelude.{Option, Some, None, codes, if◌then◌else◌}
use Rattle.std.specs.List.{flat_map}
use Rattle.sql_tokens.specs.declared.keyword.Keyword.{Keyword}
use Rattle.sql_tokens.specs.declared.keyword.Keyword.TheVariants as word
use Rattle.sql_tokens.specs.declared.sign.Sign.TheVariants as sign
use Rattle.sql_tokens.specs.declared.token.Token.{Token}
use Rattle.sql_tokens.specs.declared.token.Token.TheVariants as t
use Rattle.sql_tree.specs.declared.condition.Op.{Op}
use Rattle.sql_tree.specs.declared.condition.Op.TheVariants as op
use Rattle.sql_tree.specs.declared.condition.Operand.{Operand}
use Rattle.sql_tree.specs.declared.condition.Operand.TheVariants as operand
use Rattle.sql_tree.specs.declared.condition.Cond.{Cond}
use Rattle.sql_tree.specs.declared.condition.Cond.TheOpen.{Cond-F}
use Rattle.sql_tree.specs.declared.condition.Cond.TheViews.{roll-Cond}
use Rattle.sql_tree.specs.declared.condition.Cond.TheFolds.{fold-roll-Cond, ind-Cond, map-Cond}
use Rattle.sql_tree.specs.declared.statement.Item.{Item}
use Rattle.sql_tree.specs.declared.statement.Items.{Items}
use Rattle.sql_tree.specs.declared.statement.Items.TheVariants as items
use Rattle.sql_tree.specs.declared.statement.OrderKey.{OrderKey}
use Rattle.sql_tree.specs.declared.statement.SetPair.{SetPair}
use Rattle.sql_tree.specs.declared.statement.Statement.{Statement}
use Rattle.sql_tree.specs.declared.statement.Statement.TheVariants as statement
use Rattle.sql_tree.specs.Parts.{optional, op_token}
use Rattle.sql_tree.specs.Shapes.{Shape, shape, shape_step, child, joined, in_parens, commas, operand_shape, quoted, label_shape, item_shape, items_shape, key_shape, order_shape, bound_shape, where_shape, pair_shape, row_shape, printed}
use Rattle.sql_tree.proofs.Lexed.{Good, good_nothing, good_then, good_token, good_open, good_count, good_substr, good_minus}

-- a token and what follows it
after : (x : Token) (ts : List Token) → (x_is : Good (x ∷ [])) → Good ts → Good (x ∷ ts)
after x ts g k = good_then (x ∷ []) ts g k

word_then : (w : Keyword) (ts : List Token) → Good ts → Good (t.Word w ∷ ts)
word_then w ts k = after (t.Word w) ts (good_token (t.Word w) refl) k

good_name : (n : List ℕ) → Good (quoted n)
good_name n = good_token (t.Name n true) refl

close : Good (t.Sign sign.Close ∷ [])
close = good_token (t.Sign sign.Close) refl

good_parens : (ts : List Token) → Good ts → Good (in_parens ts)
good_parens ts g = after (t.Sign sign.Open) (ts ++ t.Sign sign.Close ∷ []) good_open (good_then ts (t.Sign sign.Close ∷ []) g close)

good_operand : (o : Operand) → Good (operand_shape o)
good_operand (operand.Column c) = good_name c
good_operand (operand.Prefix33 c) =
    good_then (t.Name (codes "substr") false ∷ t.Sign sign.Open ∷ []) _ good_substr
    (good_then (quoted c) _ (good_name c)
    (after (t.Sign sign.Comma) _ (good_token (t.Sign sign.Comma) refl) (after (t.Number 1) _ (good_token (t.Number 1) refl)
    (after (t.Sign sign.Comma) _ (good_token (t.Sign sign.Comma) refl) (after (t.Number 33) _ (good_token (t.Number 33) refl) close)))))
good_operand (operand.Text s) = good_token (t.Text s) refl
good_operand (operand.Number (pos n)) = good_token (t.Number n) refl
good_operand (operand.Number (negsuc n)) = good_minus (suc n)
good_operand operand.NullValue = good_token (t.Word word.Null) refl
good_operand (operand.Parameter n) = good_token (t.Parameter n) refl

-- each with a token before it
others : {A : Type 0} (by : Token) (f : A → List Token) → Good (by ∷ []) → ((a : A) → Good (f a)) → (xs : List A) → Good (flat_map (λ b. by ∷ f b) xs)
others by f g each [] = good_nothing
others by f g each (x ∷ xs) = good_then (by ∷ f x) (flat_map (λ b. by ∷ f b) xs) (after by (f x) g (each x)) (others by f g each xs)

good_commas : {A : Type 0} (f : A → List Token) → ((a : A) → Good (f a)) → (xs : List A) → Good (commas f xs)
good_commas f each [] = good_nothing
good_commas f each (x ∷ xs) = good_then (f x) (flat_map (λ b. t.Sign sign.Comma ∷ f b) xs) (each x) (others (t.Sign sign.Comma) f (good_token (t.Sign sign.Comma) refl) each xs)

good_op : (o : Op) → Good (op_token o ∷ [])
good_op op.Eq = good_token (t.Sign sign.Equal) refl
good_op op.Ne = good_token (t.Sign sign.NotEqual) refl
good_op op.Lt = good_token (t.Sign sign.Less) refl
good_op op.Le = good_token (t.Sign sign.AtMost) refl
good_op op.Gt = good_token (t.Sign sign.Greater) refl
good_op op.Ge = good_token (t.Sign sign.AtLeast) refl

-- conditions
abbrev P : Cond → Type 0
P x = Good (shape x).1

abbrev These : Type 0
These = List ((x : Cond) × P x)

good_child : (s : Shape) → Good s.1 → Good (child s)
good_child (true, ts) g = good_parens ts g
good_child (false, ts) g = g

good_others : (w : Keyword) (ys : These) → Good (flat_map (λ s. t.Word w ∷ child s) (map shape (map (λ e. e.0) ys)))
good_others w [] = good_nothing
good_others w (y ∷ ys) = good_then (t.Word w ∷ child (shape y.0)) _ (word_then w (child (shape y.0)) (good_child (shape y.0) y.1)) (good_others w ys)

good_joined : (w : Keyword) (ys : These) → Good (joined (t.Word w) child (map shape (map (λ e. e.0) ys)))
good_joined w [] = good_nothing
good_joined w (y ∷ ys) = good_then (child (shape y.0)) _ (good_child (shape y.0) y.1) (good_others w ys)

layer : (y : Cond-F ((x : Cond) × P x)) → Good (shape_step (map-Cond Cond Shape shape (map-Cond ((x : Cond) × P x) Cond (λ e. e.0) y))).1
layer (Cond-F.And ys) = good_joined word.And ys
layer (Cond-F.Or ys) = good_joined word.Or ys
layer (Cond-F.Not y) = word_then word.Not (child (shape y.0)) (good_child (shape y.0) y.1)
layer (Cond-F.Compare left op right) = good_then (operand_shape left) _ (good_operand left) (after (op_token op) (operand_shape right) (good_op op) (good_operand right))
layer (Cond-F.Within left list) = good_then (operand_shape left) _ (good_operand left) (word_then word.In _ (good_parens _ (good_commas operand_shape good_operand list)))
layer (Cond-F.Null column) = good_then (quoted column) _ (good_name column) (word_then word.Is _ (good_token (t.Word word.Null) refl))

closed : (y : Cond-F ((x : Cond) × P x)) → P (roll-Cond (map-Cond ((x : Cond) × P x) Cond (λ e. e.0) y))
closed y =
    let x = map-Cond ((x : Cond) × P x) Cond (λ e. e.0) y in
    subst (λ (s : Shape). Good s.1) (sym (fold-roll-Cond Shape shape_step x)) (layer y)

good_cond : (x : Cond) → P x
good_cond = ind-Cond P (λ x y is. subst (λ z. P (roll-Cond z)) is (closed y))

-- statements
good_label : (label : Option (List ℕ)) → Good (label_shape label)
good_label None = good_nothing
good_label (Some n) = word_then word.As (quoted n) (good_name n)

good_item : (i : Item) → Good (item_shape i)
good_item i = good_then (quoted i.column) (label_shape i.label) (good_name i.column) (good_label i.label)

star : Good (t.Sign sign.Star ∷ [])
star = good_token (t.Sign sign.Star) refl

good_items : (x : Items) → Good (items_shape x)
good_items items.All = star
good_items (items.Count label) =
    good_then (t.Name (codes "count") false ∷ t.Sign sign.Open ∷ []) _ good_count (after (t.Sign sign.Star) _ star (after (t.Sign sign.Close) (label_shape label) close (good_label label)))
good_items (items.Columns all) = good_commas item_shape good_item all

good_key : (k : OrderKey) → Good (key_shape k)
good_key k = good_then (quoted k.column) _ (good_name k.column) (by k.descending)
  where
    by : (b : Bool) → Good (if b then t.Word word.Desc ∷ [] else [])
    by true = good_token (t.Word word.Desc) refl
    by false = good_nothing

good_order : (keys : List OrderKey) → Good (order_shape keys)
good_order [] = good_nothing
good_order (k ∷ more) = word_then word.Order _ (word_then word.By _ (good_commas key_shape good_key (k ∷ more)))

good_bound : (w : Keyword) (n : Option ℕ) → Good (bound_shape w n)
good_bound w None = good_nothing
good_bound w (Some n) = word_then w _ (good_token (t.Number n) refl)

good_where : (c : Option Cond) → Good (where_shape c)
good_where None = good_nothing
good_where (Some c) = word_then word.Where _ (good_cond c)

good_row : (r : List Operand) → Good (row_shape r)
good_row r = good_parens _ (good_commas operand_shape good_operand r)

equals : (ts : List Token) → Good ts → Good (t.Sign sign.Equal ∷ ts)
equals ts g = after (t.Sign sign.Equal) ts (good_token (t.Sign sign.Equal) refl) g

good_pair : (p : SetPair) → Good (pair_shape p)
good_pair p = good_then (quoted p.column) _ (good_name p.column) (equals _ (good_operand p.value))

good_names : (columns : Option (List (List ℕ))) → Good (optional (λ names. in_parens (commas quoted names)) columns)
good_names None = good_nothing
good_names (Some names) = good_parens _ (good_commas quoted good_name names)

pub good_statement : (x : Statement) → Good (printed x)
good_statement statement.Empty = good_nothing
good_statement (statement.Set name value) = word_then word.Set _ (good_then (quoted name) _ (good_name name) (equals _ (good_operand value)))
good_statement (statement.Select table all cond order limit offset) =
    word_then word.Select _ (good_then (items_shape all) _ (good_items all) (word_then word.From _ (good_then (quoted table) _ (good_name table)
    (good_then (where_shape cond) _ (good_where cond) (good_then (order_shape order) _ (good_order order)
    (good_then (bound_shape word.Limit limit) _ (good_bound word.Limit limit) (good_bound word.Offset offset)))))))
good_statement (statement.Insert table columns rows) =
    word_then word.Insert _ (word_then word.Into _ (good_then (quoted table) _ (good_name table)
    (good_then (optional (λ names. in_parens (commas quoted names)) columns) _ (good_names columns) (word_then word.Values _ (good_commas row_shape good_row rows)))))
good_statement (statement.Update table sets cond) =
    word_then word.Update _ (good_then (quoted table) _ (good_name table) (word_then word.Set _ (good_then (commas pair_shape sets) _ (good_commas pair_shape good_pair sets) (good_where cond))))
good_statement (statement.Delete table cond) = word_then word.Delete _ (word_then word.From _ (good_then (quoted table) _ (good_name table) (good_where cond)))
