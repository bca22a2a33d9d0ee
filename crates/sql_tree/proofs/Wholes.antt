-- The canonical tokens of a statement are derived.
use Rattle.std.proofs.Common.{◌≡◌, ℕ, suc, pos, negsuc, Bool, true, false, ◌&&◌, List, [], ◌∷◌, ◌++◌, map, append-nil, refl, sym, ap, ◌∙◌, subst, arith, ◌≤◌}
use Rattle.std.specs.Prelude.{Option, Some, None, Contains, option_map, codes, if◌then◌else◌}
use Rattle.std.specs.List.{flat_map, list_all}
use Rattle.std.proofs.lemmas.Bool.Decides.{nat_tests}
use Rattle.sql_tokens.specs.declared.keyword.Keyword.{Keyword}
use Rattle.sql_tokens.specs.declared.keyword.Keyword.TheVariants as word
use Rattle.sql_tokens.specs.declared.sign.Sign.TheVariants as sign
use Rattle.sql_tokens.specs.declared.token.Token.{Token}
use Rattle.sql_tokens.specs.declared.token.Token.TheVariants as t
use Rattle.sql_tree.specs.declared.condition.Operand.{Operand}
use Rattle.sql_tree.specs.declared.condition.Operand.TheVariants as operand
use Rattle.sql_tree.specs.declared.condition.Cond as trees
use Rattle.sql_tree.specs.declared.statement.Item as trees_item
use Rattle.sql_tree.specs.declared.statement.Items as trees_items
use Rattle.sql_tree.specs.declared.statement.Items.TheVariants as items
use Rattle.sql_tree.specs.declared.statement.OrderKey.{OrderKey}
use Rattle.sql_tree.specs.declared.statement.SetPair.{SetPair}
use Rattle.sql_tree.specs.declared.statement.Statement.{Statement}
use Rattle.sql_tree.specs.declared.statement.Statement.TheVariants as statement
use Rattle.sql_tree.specs.Parts.{optional, listed, Spelled, name_tokens, qualifiers, Value, value_tokens, value_operand}
use Rattle.sql_tree.specs.Conditions.{Cond, cond_tree, cond_qualifiers}
use Rattle.sql_tree.specs.Grammar.{Item, item_tree, item_tokens, label_name, label_tokens, Items, items_tree, items_tokens, items_qualifiers, Direction, Key, key_tree, key_tokens, Some1, all_of, order_tokens, Bound, where_tokens, names_tokens, row_tokens, Pair, pair_tree, pair_tokens, Setting, setting_tokens, setting_operand, Body, body_tree, body_tokens, body_qualifiers, text_tree, text_tokens}
use Rattle.sql_tree.specs.Shapes.{quoted, operand_shape, commas, in_parens, label_shape, item_shape, items_shape, key_shape, order_shape, bound_shape, where_shape, pair_shape, row_shape, printed}
use Rattle.sql_tree.specs.WellFormed.{is_value, is_setting, has_one, all_shaped, is_row, is_bound, has_items, has_names, is_grammatical}
use Rattle.sql_tree.proofs.Deriving.{both_true, as_value, plain, plain_value, none_before, each, derived}
use Rattle.sql_tree.specs.Spelling.{IsQualified, Spells}
use Rattle.sql_tree.specs.Depths.{filter_open, body_open, text_open, filter_depth, statement_depth}
use Rattle.sql_tree.specs.Laws.{IsStatement}
use Rattle.sql_tree.specs.Spelling.{TextSpells}
use Rattle.sql_tree.specs.Canonical.{canon}
use Rattle.sql_tree.proofs.Lexed.{read_whole}
use Rattle.sql_tree.proofs.Reading.{good_statement}

spelled : List ℕ → Spelled
spelled n = record { name = n; quoted = true }

abbrev always : {A : Type 0} → A → Bool
always a = true

all_always : {A : Type 0} (xs : List A) → list_all always xs ≡ true
all_always [] = refl
all_always (x ∷ xs) = all_always xs

as_name : (n : List ℕ) → always n ≡ true → (s : Spelled) × (s.name ≡ n) × (name_tokens s ≡ quoted n) × (none_before s ≡ [])
unfolding spelled none_before
as_name n _ = (spelled n, refl, refl, refl)

as_label : (label : Option (List ℕ)) → (l : Option Spelled) × (label_name l ≡ label) × (label_tokens l ≡ label_shape label)
unfolding spelled
as_label None = (None, refl, refl)
as_label (Some n) = (Some (spelled n), refl, refl)

item_before : Item → List (List ℕ)
item_before x = qualifiers x.column

as_item : (x : trees_item.Item) → always x ≡ true → (i : Item) × (item_tree i ≡ x) × (item_tokens i ≡ item_shape x) × (item_before i ≡ [])
unfolding plain item_before
as_item x _ =
    let l = as_label x.label in
    (record { column = plain x.column; label = l.0 }, (λ i. record { column = x.column; label = l.1 i }), (λ i. quoted x.column ++ l.2 i), refl)

as_items : (x : trees_items.Items) → has_items x ≡ true → (i : Items) × (items_tree i ≡ x) × (items_tokens i ≡ items_shape x) × (items_qualifiers i ≡ [])
unfolding item_before
as_items items.All h = (Items.all, refl, refl, refl)
as_items (items.Count label) h = let l = as_label label in (Items.count l.0, (λ i. items.Count (l.1 i)), (λ i. t.Name (codes "count") false ∷ t.Sign sign.Open ∷ t.Sign sign.Star ∷ t.Sign sign.Close ∷ l.2 i), refl)
as_items (items.Columns []) h = cc
as_items (items.Columns (x ∷ more)) h =
    let a = as_item x refl in
    let b = each always item_shape item_tokens item_tree item_before as_item more (all_always more) in
    (Items.columns a.0 b.0, (λ i. items.Columns (a.1 i ∷ b.1 i)), (λ i. a.2 i ++ b.2 i), (λ i. a.3 i ++ b.3 i))

key_before : Key → List (List ℕ)
key_before k = qualifiers k.column

as_key : (k : OrderKey) → always k ≡ true → (d : Key) × (key_tree d ≡ k) × (key_tokens d ≡ key_shape k) × (key_before d ≡ [])
unfolding plain key_before
as_key k _ = by k.descending refl
  where
    by : (b : Bool) → k.descending ≡ b → (d : Key) × (key_tree d ≡ k) × (key_tokens d ≡ key_shape k) × (key_before d ≡ [])
    by true e = (
      record { column = plain k.column; direction = Direction.descending },
      (λ i. record { column = k.column; descending = sym e i }),
      ap (λ b. quoted k.column ++ (if b then t.Word word.Desc ∷ [] else [])) (sym e),
      refl,
    )
    by false e = (
      record { column = plain k.column; direction = Direction.unsaid },
      (λ i. record { column = k.column; descending = sym e i }),
      ap (λ b. quoted k.column ++ (if b then t.Word word.Desc ∷ [] else [])) (sym e),
      refl,
    )

-- the keys of an order that may be left out
abbrev keys_of : Option (Some1 Key) → List OrderKey
keys_of o = elim o [ None ↦ [] | Some k ↦ map key_tree (all_of k) ]

abbrev keys_before : Option (Some1 Key) → List (List ℕ)
keys_before o = elim o [ None ↦ [] | Some k ↦ flat_map (λ (x : Key). qualifiers x.column) (all_of k) ]

as_order : (keys : List OrderKey) → (o : Option (Some1 Key)) × (keys_of o ≡ keys) × (optional order_tokens o ≡ order_shape keys) × (keys_before o ≡ [])
unfolding key_before
as_order [] = (None, refl, refl, refl)
as_order (k ∷ more) =
    let a = as_key k refl in
    let b = each always key_shape key_tokens key_tree key_before as_key more (all_always more) in
    (Some (record { first = a.0; more = b.0 }), (λ i. a.1 i ∷ b.1 i), (λ i. t.Word word.Order ∷ t.Word word.By ∷ (a.2 i ++ b.2 i)), (λ i. a.3 i ++ b.3 i))

as_bound : (w : Keyword) (n : Option ℕ) → is_bound n ≡ true → (b : Option Bound) × (option_map (λ (x : Bound). x.number) b ≡ n) × (optional (λ (x : Bound). t.Word w ∷ t.Number x.number ∷ []) b ≡ bound_shape w n)
as_bound w None h = (None, refl, refl)
as_bound w (Some n) h = (Some (record { number = n; below = grind (arith, nat_tests) }), refl, refl)

abbrev before_cond : Option Cond → List (List ℕ)
before_cond cond = elim cond [ None ↦ [] | Some c ↦ cond_qualifiers c ]

as_where : (c : Option trees.Cond) → all_shaped c ≡ true → (d : Option Cond) × (option_map cond_tree d ≡ c) × (where_tokens d ≡ where_shape c) × (before_cond d ≡ []) × (filter_open d ≤ filter_depth c)
as_where None h = (None, refl, refl, refl, omega arith)
as_where (Some c) h = let d = derived c h in (Some d.0, ap Some d.1, ap (λ (xs : List Token). t.Word word.Where ∷ xs) (sym d.2), d.3, d.4)

abbrev names_of : Option (Some1 Spelled) → Option (List (List ℕ))
names_of names = option_map (λ (l : Some1 Spelled). map (λ (n : Spelled). n.name) (all_of l)) names

as_names : (columns : Option (List (List ℕ))) → has_names columns ≡ true
    → (n : Option (Some1 Spelled)) × (names_of n ≡ columns) × (optional names_tokens n ≡ optional (λ names. in_parens (commas quoted names)) columns)
unfolding spelled
as_names None h = (None, refl, refl)
as_names (Some []) h = cc
as_names (Some (c ∷ more)) h =
    let b = each always quoted name_tokens (λ (n : Spelled). n.name) none_before as_name more (all_always more) in
    (Some (record { first = spelled c; more = b.0 }), (λ i. Some (c ∷ b.1 i)), (λ i. in_parens (quoted c ++ b.2 i)))

values_of : Some1 Value → List Operand
values_of r = map value_operand (all_of r)

as_row : (r : List Operand) → is_row r ≡ true → (d : Some1 Value) × (values_of d ≡ r) × (row_tokens d ≡ row_shape r) × (none_before d ≡ [])
unfolding values_of none_before
as_row [] h = cc
as_row (o ∷ more) h =
    let s = both_true (is_value o) (list_all is_value more) h in
    let a = as_value o s.0 in
    let b = each is_value operand_shape value_tokens value_operand none_before plain_value more s.1 in
    (record { first = a.0; more = b.0 }, (λ i. a.1 i ∷ b.1 i), (λ i. in_parens (a.2 i ++ b.2 i)), refl)

as_rows : (rows : List (List Operand)) → (has_one rows && list_all is_row rows) ≡ true
    → (d : Some1 (Some1 Value)) × (map values_of (all_of d) ≡ rows) × (listed row_tokens d.first d.more ≡ commas row_shape rows)
as_rows [] h = cc
as_rows (r ∷ more) h =
    let s = both_true (is_row r) (list_all is_row more) h in
    let a = as_row r s.0 in
    let b = each is_row row_shape row_tokens values_of none_before as_row more s.1 in
    (record { first = a.0; more = b.0 }, (λ i. a.1 i ∷ b.1 i), (λ i. a.2 i ++ b.2 i))

as_pair : (p : SetPair) → is_value p.value ≡ true → (d : Pair) × (pair_tree d ≡ p) × (pair_tokens d ≡ pair_shape p) × (none_before d ≡ [])
unfolding spelled none_before
as_pair p h =
    let v = as_value p.value h in
    (record { column = spelled p.column; value = v.0 }, (λ i. record { column = p.column; value = v.1 i }), (λ i. quoted p.column ++ t.Sign sign.Equal ∷ v.2 i), refl)

as_pairs : (sets : List SetPair) → has_one sets ≡ true → list_all (λ (p : SetPair). is_value p.value) sets ≡ true
    → (d : Some1 Pair) × (map pair_tree (all_of d) ≡ sets) × (listed pair_tokens d.first d.more ≡ commas pair_shape sets)
as_pairs [] h k = cc
as_pairs (p ∷ more) h k =
    let s = both_true (is_value p.value) (list_all (λ (x : SetPair). is_value x.value) more) k in
    let a = as_pair p s.0 in
    let b = each (λ (x : SetPair). is_value x.value) pair_shape pair_tokens pair_tree none_before as_pair more s.1 in
    (record { first = a.0; more = b.0 }, (λ i. a.1 i ∷ b.1 i), (λ i. a.2 i ++ b.2 i))

as_setting : (o : Operand) → is_setting o ≡ true → (s : Setting) × (setting_operand s ≡ o) × (setting_tokens s ≡ operand_shape o)
as_setting (operand.Text s) h = (Setting.text s, refl, refl)
as_setting (operand.Number (pos n)) h = (Setting.number n, refl, refl)
as_setting (operand.Number (negsuc n)) h = (Setting.minus (suc n), refl, refl)
as_setting (operand.Column c) h = cc
as_setting (operand.Prefix33 c) h = cc
as_setting operand.NullValue h = cc
as_setting (operand.Parameter n) h = cc

-- a body, before whose columns no name stands
abbrev AsBody : Statement → Type 0
AsBody x = (b : Body) × (body_tree b ≡ x) × (body_tokens b ≡ printed x) × (body_qualifiers b ≡ []) × (body_open b ≤ statement_depth x)

as_select : (table : List ℕ) (all : trees_items.Items) (cond : Option trees.Cond) (order : List OrderKey) (limit offset : Option ℕ)
    → (has_items all && (all_shaped cond && (is_bound limit && is_bound offset))) ≡ true → AsBody (statement.Select table all cond order limit offset)
unfolding spelled
as_select table all cond order limit offset h =
    let p = both_true (has_items all) _ h in
    let q = both_true (all_shaped cond) _ p.1 in
    let r = both_true (is_bound limit) (is_bound offset) q.1 in
    let a = as_items all p.0 in
    let c = as_where cond q.0 in
    let o = as_order order in
    let l = as_bound word.Limit limit r.0 in
    let f = as_bound word.Offset offset r.1 in (
      Body.select (record { items = a.0; table = spelled table; cond = c.0; order = o.0; limit = l.0; offset = f.0 }),
      (λ i. statement.Select table (a.1 i) (c.1 i) (o.1 i) (l.1 i) (f.1 i)),
      (λ i. t.Word word.Select ∷ (a.2 i ++ t.Word word.From ∷ (quoted table ++ (c.2 i ++ (o.2 i ++ (l.2 i ++ f.2 i)))))),
      (λ i. a.3 i ++ (c.3 i ++ o.3 i)),
      c.4,
    )

as_insert : (table : List ℕ) (columns : Option (List (List ℕ))) (rows : List (List Operand)) → (has_names columns && (has_one rows && list_all is_row rows)) ≡ true → AsBody (statement.Insert table columns rows)
unfolding spelled values_of
as_insert table columns rows h =
    let p = both_true (has_names columns) _ h in
    let n = as_names columns p.0 in
    let r = as_rows rows p.1 in (
      Body.insert (spelled table) n.0 r.0,
      (λ i. statement.Insert table (n.1 i) (r.1 i)),
      (λ i. t.Word word.Insert ∷ t.Word word.Into ∷ (quoted table ++ (n.2 i ++ t.Word word.Values ∷ r.2 i))),
      refl,
      omega arith,
    )

as_update : (table : List ℕ) (sets : List SetPair) (cond : Option trees.Cond) → (has_one sets && (list_all (λ (p : SetPair). is_value p.value) sets && all_shaped cond)) ≡ true → AsBody (statement.Update table sets cond)
unfolding spelled
as_update table sets cond h =
    let p = both_true (has_one sets) _ h in
    let q = both_true (list_all (λ (x : SetPair). is_value x.value) sets) (all_shaped cond) p.1 in
    let s = as_pairs sets p.0 q.0 in
    let c = as_where cond q.1 in (
      Body.update (spelled table) s.0 c.0,
      (λ i. statement.Update table (s.1 i) (c.1 i)),
      (λ i. t.Word word.Update ∷ (quoted table ++ t.Word word.Set ∷ (s.2 i ++ c.2 i))),
      c.3,
      c.4,
    )

as_delete : (table : List ℕ) (cond : Option trees.Cond) → all_shaped cond ≡ true → AsBody (statement.Delete table cond)
unfolding spelled
as_delete table cond h =
    let c = as_where cond h in
    (Body.delete (spelled table) c.0, (λ i. statement.Delete table (c.1 i)), (λ i. t.Word word.Delete ∷ t.Word word.From ∷ (quoted table ++ c.2 i)), c.3, c.4)

as_set : (name : List ℕ) (value : Operand) → is_setting value ≡ true → AsBody (statement.Set name value)
unfolding spelled
as_set name value h =
    let s = as_setting value h in
    (Body.set (spelled name) false s.0, (λ i. statement.Set name (s.1 i)), (λ i. t.Word word.Set ∷ (quoted name ++ t.Sign sign.Equal ∷ s.2 i)), refl, omega arith)

-- a whole text
pub AsText : Statement → Type 0
AsText x = (b : Option Body) × (text_tree (record { body = b; semicolon = false }) ≡ x) × (printed x ≡ text_tokens (record { body = b; semicolon = false })) × IsQualified b × (text_open (record { body = b; semicolon = false }) ≤ statement_depth x)

qualified : (b : Body) → body_qualifiers b ≡ [] → IsQualified (Some b)
qualified b none q is = absurd (Contains-nil (subst (λ (xs : List (List ℕ)). Contains xs q) none is))
  where
    Contains-nil : Contains [] q → ⊥
    Contains-nil h = let k = h.1 in omega arith

of_body : (x : Statement) → AsBody x → AsText x
unfolding AsText
of_body x b = (Some b.0, b.1, sym b.2 ∙ sym (append-nil (body_tokens b.0)), qualified b.0 b.3, b.4)

pub as_text : (x : Statement) → is_grammatical x ≡ true → AsText x
unfolding AsText
as_text statement.Empty h = (None, refl, refl, tt, omega arith)
as_text (statement.Set name value) h = of_body _ (as_set name value h)
as_text (statement.Select table all cond order limit offset) h = of_body _ (as_select table all cond order limit offset h)
as_text (statement.Insert table columns rows) h = of_body _ (as_insert table columns rows h)
as_text (statement.Update table sets cond) h = of_body _ (as_update table sets cond h)
as_text (statement.Delete table cond) h = of_body _ (as_delete table cond h)

pub tokens_spell : (x : Statement) → IsStatement x → Spells (printed x) x
unfolding AsText
tokens_spell x h =
    let b = as_text x h.grammatical in
    record { by = record { body = b.0; semicolon = false }; derives = b.2; is = sym b.1; qualified = b.3; gapless = h.gapless; settable = h.settable }

-- its canonical text opens no more at once than its nodes stand deep
pub spelled_shallow : (x : Statement) (h : IsStatement x) → text_open (tokens_spell x h).by ≤ statement_depth x
unfolding AsText tokens_spell
spelled_shallow x h = (as_text x h.grammatical).4

pub text_spells : (x : Statement) → IsStatement x → TextSpells (canon x) x
text_spells x h =
    let r = read_whole (printed x) h.possible (good_statement x) in
    record { placed = r.placed; lexes = r.lexes; spells = subst (λ (ts : List Token). Spells ts x) (sym r.is) (tokens_spell x h) }
