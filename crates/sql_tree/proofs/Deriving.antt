-- The canonical tokens of a condition are derived.
use Rattle.std.proofs.Common.{◌≡◌, ℕ, suc, pos, negsuc, Bool, true, false, ◌&&◌, List, [], ◌∷◌, ◌++◌, map, append-nil, refl, sym, ap, ◌∙◌, subst, arith, ◌+◌, ◌≤◌}
use Rattle.std.specs.Prelude.{◌||◌, not, None, max}
use Rattle.std.specs.List.{flat_map, list_all}
use denote.Hole.Carrier
use Rattle.std.proofs.Math.Nat.{le-max_left, le-max_right}
use Rattle.sql_tokens.specs.declared.keyword.Keyword.TheVariants as word
use Rattle.sql_tokens.specs.declared.sign.Sign.TheVariants as sign
use Rattle.sql_tokens.specs.declared.token.Token.{Token}
use Rattle.sql_tokens.specs.declared.token.Token.TheVariants as t
use Rattle.sql_tree.specs.declared.condition.Op.{Op}
use Rattle.sql_tree.specs.declared.condition.Operand.{Operand}
use Rattle.sql_tree.specs.declared.condition.Operand.TheVariants as operand
use Rattle.sql_tree.specs.declared.condition.Cond as trees
use Rattle.sql_tree.specs.declared.condition.Cond.TheVariants as tree
use Rattle.sql_tree.specs.declared.condition.Cond.TheOpen.{Cond-F}
use Rattle.sql_tree.specs.declared.condition.Cond.TheViews.{roll-Cond}
use Rattle.sql_tree.specs.declared.condition.Cond.TheFolds.{fold-roll-Cond, ind-Cond, map-Cond}
use Rattle.sql_tree.specs.Parts.{Column, Value, value_tokens, value_operand, Left, left_tokens, left_operand, left_qualifiers, op_token}
use Rattle.sql_tree.specs.Conditions.{Cond, only, or, Conj, single, and, Neg, parens, test, Test, Side, side_tokens, side_operand, side_qualifiers, test_qualifiers, cond_qualifiers, conj_qualifiers, neg_qualifiers, test_tokens, test_tree, cond_tokens, conj_tokens, neg_tokens, or_of, and_of, cond_parts, conj_parts, neg_tree, cond_tree, cond_open, conj_open, neg_open}
use Rattle.sql_tree.specs.Shapes.{Shape, shape, shape_step, most, depth_step, node_depth, child, joined, in_parens, commas, operand_shape, quoted}
use Rattle.sql_tree.specs.WellFormed.{is_left, is_value, has_one, is_shaped, shaped_step}

pub both_true : (a b : Bool) → (a && b) ≡ true → (a ≡ true) × (b ≡ true)
both_true true b e = (refl, e)
both_true false b e = cc

-- operands
pub as_value : (o : Operand) → is_value o ≡ true → (v : Value) × (value_operand v ≡ o) × (value_tokens v ≡ operand_shape o)
as_value (operand.Column c) h = cc
as_value (operand.Prefix33 c) h = cc
as_value (operand.Text s) h = (Value.text s, refl, refl)
as_value (operand.Number (pos n)) h = (Value.number n, refl, refl)
as_value (operand.Number (negsuc n)) h = (Value.minus (suc n), refl, refl)
as_value operand.NullValue h = (Value.null, refl, refl)
as_value (operand.Parameter n) h = (Value.parameter n, refl, refl)

unfoldable pub plain : List ℕ → Column
plain c = record { qualifier = None; column = record { name = c; quoted = true } }

as_left : (o : Operand) → is_left o ≡ true → (l : Left) × (left_operand l ≡ o) × (left_tokens l ≡ operand_shape o) × (left_qualifiers l ≡ [])
unfolding plain
as_left (operand.Column c) h = (Left.column (plain c), refl, refl, refl)
as_left (operand.Prefix33 c) h = (Left.substr (plain c), refl, refl, refl)
as_left (operand.Text s) h = cc
as_left (operand.Number n) h = cc
as_left operand.NullValue h = cc
as_left (operand.Parameter n) h = cc

as_side : (o : Operand) → (s : Side) × (side_operand s ≡ o) × (side_tokens s ≡ operand_shape o) × (side_qualifiers s ≡ [])
as_side (operand.Column c) = let l = as_left (operand.Column c) refl in (Side.left l.0, l.1, l.2, l.3)
as_side (operand.Prefix33 c) = let l = as_left (operand.Prefix33 c) refl in (Side.left l.0, l.1, l.2, l.3)
as_side (operand.Text s) = let v = as_value (operand.Text s) refl in (Side.value v.0, v.1, v.2, refl)
as_side (operand.Number n) = let v = as_value (operand.Number n) refl in (Side.value v.0, v.1, v.2, refl)
as_side operand.NullValue = let v = as_value operand.NullValue refl in (Side.value v.0, v.1, v.2, refl)
as_side (operand.Parameter n) = let v = as_value (operand.Parameter n) refl in (Side.value v.0, v.1, v.2, refl)

-- parts behind commas
pub each : {A B : Type 0} (good : A → Bool) (shaped : A → List Token) (tokens : B → List Token) (is : B → A) (before : B → List (List ℕ))
    → ((a : A) → good a ≡ true → (b : B) × (is b ≡ a) × (tokens b ≡ shaped a) × (before b ≡ []))
    → (xs : List A) → list_all good xs ≡ true
    → (bs : List B) × (map is bs ≡ xs) × (flat_map (λ b. t.Sign sign.Comma ∷ tokens b) bs ≡ flat_map (λ a. t.Sign sign.Comma ∷ shaped a) xs) × (flat_map before bs ≡ [])
each good shaped tokens is before one [] h = ([], refl, refl, refl)
each good shaped tokens is before one (x ∷ xs) h =
    let b = both_true (good x) (list_all good xs) h in
    let y = one x b.0 in
    let more = each good shaped tokens is before one xs b.1 in
    (y.0 ∷ more.0, (λ i. y.1 i ∷ more.1 i), (λ i. (t.Sign sign.Comma ∷ y.2 i) ++ more.2 i), (λ i. y.3 i ++ more.3 i))

-- nothing stands before a value
unfoldable pub none_before : {A : Type 0} → A → List (List ℕ)
none_before a = []

pub plain_value : (o : Operand) → is_value o ≡ true → (v : Value) × (value_operand v ≡ o) × (value_tokens v ≡ operand_shape o) × (none_before v ≡ [])
unfolding none_before
plain_value o h = let v = as_value o h in (v.0, v.1, v.2, refl)

as_test : (o : Operand) (op : Op) (p : Operand) → (is_left o || is_left p) ≡ true → (x : Test) × (test_tree x ≡ tree.Compare o op p) × (test_tokens x ≡ operand_shape o ++ op_token op ∷ operand_shape p) × (test_qualifiers x ≡ [])
as_test o op p h = by (is_left o) refl
  where
    by : (b : Bool) → is_left o ≡ b → (x : Test) × (test_tree x ≡ tree.Compare o op p) × (test_tokens x ≡ operand_shape o ++ op_token op ∷ operand_shape p) × (test_qualifiers x ≡ [])
    by true e =
        let l = as_left o e in
        let s = as_side p in
        (Test.compare l.0 op s.0, (λ i. tree.Compare (l.1 i) op (s.1 i)), (λ i. l.2 i ++ op_token op ∷ s.2 i), (λ i. l.3 i ++ s.3 i))
    by false e =
        let v = as_value o (ap not e) in
        let l = as_left p (subst (λ b. (b || is_left p) ≡ true) e h) in
        (Test.flipped v.0 op l.0, (λ i. tree.Compare (v.1 i) op (l.1 i)), (λ i. v.2 i ++ op_token op ∷ l.2 i), l.3)

as_within : (o : Operand) (list : List Operand) → (is_left o && (has_one list && list_all is_value list)) ≡ true → (x : Test) × (test_tree x ≡ tree.Within o list) × (test_tokens x ≡ operand_shape o ++ t.Word word.In ∷ in_parens (commas operand_shape list)) × (test_qualifiers x ≡ [])
as_within o [] h = let b = (both_true (is_left o) false h).1 in cc
as_within o (p ∷ more) h =
    let b = both_true (is_left o) (list_all is_value (p ∷ more)) h in
    let l = as_left o b.0 in
    let c = both_true (is_value p) (list_all is_value more) b.1 in
    let v = as_value p c.0 in
    let vs = each is_value operand_shape value_tokens value_operand none_before plain_value more c.1 in
    (Test.within l.0 false v.0 vs.0, (λ i. tree.Within (l.1 i) (v.1 i ∷ vs.1 i)), (λ i. l.2 i ++ t.Word word.In ∷ t.Sign sign.Open ∷ ((v.2 i ++ vs.2 i) ++ t.Sign sign.Close ∷ [])), l.3)

as_null : (c : List ℕ) → (x : Test) × (test_tree x ≡ tree.Null c) × (test_tokens x ≡ quoted c ++ t.Word word.Is ∷ t.Word word.Null ∷ []) × (test_qualifiers x ≡ [])
unfolding plain
as_null c = (Test.null (plain c) false, refl, refl, refl)

-- conditions
abbrev AsNeg : trees.Cond → Shape → ℕ → Type 0
AsNeg x s deep = (m : Neg) × (neg_tree m ≡ x) × (child s ≡ neg_tokens m) × (neg_qualifiers m ≡ []) × (neg_open m ≤ deep)

abbrev AsCond : trees.Cond → Shape → ℕ → Type 0
AsCond x s deep = (d : Cond) × (cond_tree d ≡ x) × (s.1 ≡ cond_tokens d) × (cond_qualifiers d ≡ []) × (cond_open d ≤ deep)

abbrev Both : trees.Cond → Shape → ℕ → Bool → Type 0
Both x s deep full = full ≡ true → AsNeg x s deep × AsCond x s deep

abbrev P : trees.Cond → Type 0
P x = Both x (shape x) (node_depth x) (is_shaped x)

abbrev These : Type 0
These = List ((x : trees.Cond) × P x)

abbrev trees_of : These → List trees.Cond
trees_of ys = map (λ e. e.0) ys

max-most : (a b c : ℕ) → a ≤ c → b ≤ c → max a b ≤ c
max-most a b c h k = omega arith

below_first : (a b c : ℕ) → a ≤ b → a ≤ max b c
below_first a b c h = let k = le-max_left b c in omega arith

below_both : (a b c d : ℕ) → a ≤ c → b ≤ d → max a b ≤ max c d
below_both a b c d h k = let m = le-max_left c d in let n = le-max_right c d in max-most a b (max c d) (omega arith) (omega arith)

all_true : List Bool → Bool
all_true bs = list_all (λ b. b) bs

ands : (y : (x : trees.Cond) × P x) (ys : These) → list_all (λ b. b) (map is_shaped (trees_of (y ∷ ys))) ≡ true
    → (c : Conj) × (conj_parts c ≡ trees_of (y ∷ ys)) × (joined (t.Word word.And) child (map shape (trees_of (y ∷ ys))) ≡ conj_tokens c) × (conj_qualifiers c ≡ []) × (conj_open c ≤ most (map node_depth (trees_of (y ∷ ys))))
ands y [] h = let m = (y.1 (both_true (is_shaped y.0) true h).0).0 in (single m.0, ap (λ w. w ∷ []) m.1, append-nil (child (shape y.0)) ∙ m.2, m.3, below_first (neg_open m.0) (node_depth y.0) 0 m.4)
ands y (z ∷ zs) h =
    let b = both_true (is_shaped y.0) (list_all (λ b. b) (map is_shaped (trees_of (z ∷ zs)))) h in
    let m = (y.1 b.0).0 in
    let c = ands z zs b.1 in
    (and m.0 c.0, (λ i. m.1 i ∷ c.1 i), (λ i. m.2 i ++ t.Word word.And ∷ c.2 i), (λ i. m.3 i ++ c.3 i), below_both (neg_open m.0) (conj_open c.0) (node_depth y.0) (most (map node_depth (trees_of (z ∷ zs)))) m.4 c.4)

ors : (y : (x : trees.Cond) × P x) (ys : These) → list_all (λ b. b) (map is_shaped (trees_of (y ∷ ys))) ≡ true
    → (d : Cond) × (cond_parts d ≡ trees_of (y ∷ ys)) × (joined (t.Word word.Or) child (map shape (trees_of (y ∷ ys))) ≡ cond_tokens d) × (cond_qualifiers d ≡ []) × (cond_open d ≤ most (map node_depth (trees_of (y ∷ ys))))
ors y [] h = let m = (y.1 (both_true (is_shaped y.0) true h).0).0 in (only (single m.0), ap (λ w. w ∷ []) m.1, append-nil (child (shape y.0)) ∙ m.2, m.3, below_first (neg_open m.0) (node_depth y.0) 0 m.4)
ors y (z ∷ zs) h =
    let b = both_true (is_shaped y.0) (list_all (λ b. b) (map is_shaped (trees_of (z ∷ zs)))) h in
    let m = (y.1 b.0).0 in
    let d = ors z zs b.1 in
    (or (single m.0) d.0, (λ i. m.1 i ∷ d.1 i), (λ i. m.2 i ++ t.Word word.Or ∷ d.2 i), (λ i. m.3 i ++ d.3 i), below_both (neg_open m.0) (cond_open d.0) (node_depth y.0) (most (map node_depth (trees_of (z ∷ zs)))) m.4 d.4)

grouped : (x : trees.Cond) (p : List Token) (d : Cond) (deep : ℕ) → cond_tree d ≡ x → p ≡ cond_tokens d → cond_qualifiers d ≡ [] → cond_open d ≤ deep → AsNeg x (true, p) (deep + 1) × AsCond x (true, p) (deep + 1)
grouped x p d deep is says none low = ((parens d, is, ap in_parens says, none, omega arith), (d, is, says, none, omega arith))

alone : (x : trees.Cond) (p : List Token) (m : Neg) (deep : ℕ) → neg_tree m ≡ x → p ≡ neg_tokens m → neg_qualifiers m ≡ [] → neg_open m ≤ deep → AsNeg x (false, p) deep × AsCond x (false, p) deep
alone x p m deep is says none low = ((m, is, says, none, low), (only (single m), is, says, none, low))

layer : (y : Cond-F ((x : trees.Cond) × P x)) →
    let x = map-Cond ((x : trees.Cond) × P x) trees.Cond (λ e. e.0) y in
    Both (roll-Cond x) (shape_step (map-Cond trees.Cond Shape shape x)) (depth_step (map-Cond trees.Cond ℕ node_depth x)) (shaped_step (map-Cond trees.Cond Bool is_shaped x))
unfolding roll-Cond denote.Hole.Carrier.roll
layer (Cond-F.And []) h = cc
layer (Cond-F.And (y ∷ [])) h = cc
layer (Cond-F.And (y ∷ z ∷ zs)) h =
    let c = ands y (z ∷ zs) h in
    grouped (tree.And (trees_of (y ∷ z ∷ zs))) (joined (t.Word word.And) child (map shape (trees_of (y ∷ z ∷ zs)))) (only c.0) (most (map node_depth (trees_of (y ∷ z ∷ zs)))) (ap and_of c.1) c.2 c.3 c.4
layer (Cond-F.Or []) h = cc
layer (Cond-F.Or (y ∷ [])) h = cc
layer (Cond-F.Or (y ∷ z ∷ zs)) h =
    let d = ors y (z ∷ zs) h in
    grouped (tree.Or (trees_of (y ∷ z ∷ zs))) (joined (t.Word word.Or) child (map shape (trees_of (y ∷ z ∷ zs)))) d.0 (most (map node_depth (trees_of (y ∷ z ∷ zs)))) (ap or_of d.1) d.2 d.3 d.4
layer (Cond-F.Not y) h =
    let m = (y.1 h).0 in
    alone (tree.Not y.0) (t.Word word.Not ∷ child (shape y.0)) (Neg.not m.0) (node_depth y.0 + 1) (ap tree.Not m.1) (ap (λ (w : List Token). t.Word word.Not ∷ w) m.2) m.3 (let low = m.4 in omega arith)
layer (Cond-F.Compare left op right) h = let x = as_test left op right h in alone (tree.Compare left op right) _ (test x.0) 0 x.1 (sym x.2) x.3 (omega arith)
layer (Cond-F.Within left list) h = let x = as_within left list h in alone (tree.Within left list) _ (test x.0) 0 x.1 (sym x.2) x.3 (omega arith)
layer (Cond-F.Null column) h = let x = as_null column in alone (tree.Null column) _ (test x.0) 0 x.1 (sym x.2) x.3 (omega arith)

closed : (y : Cond-F ((x : trees.Cond) × P x)) → P (roll-Cond (map-Cond ((x : trees.Cond) × P x) trees.Cond (λ e. e.0) y))
closed y =
    let x = map-Cond ((x : trees.Cond) × P x) trees.Cond (λ e. e.0) y in
    subst (λ s. Both (roll-Cond x) s (node_depth (roll-Cond x)) (is_shaped (roll-Cond x))) (sym (fold-roll-Cond Shape shape_step x))
    (subst (λ n. Both (roll-Cond x) (shape_step (map-Cond trees.Cond Shape shape x)) n (is_shaped (roll-Cond x))) (sym (fold-roll-Cond ℕ depth_step x))
    (subst (λ b. Both (roll-Cond x) (shape_step (map-Cond trees.Cond Shape shape x)) (depth_step (map-Cond trees.Cond ℕ node_depth x)) b) (sym (fold-roll-Cond Bool shaped_step x)) (layer y)))

all_trees : (x : trees.Cond) → P x
all_trees = ind-Cond P (λ x y is. subst (λ z. P (roll-Cond z)) is (closed y))

pub derived : (x : trees.Cond) → is_shaped x ≡ true → (d : Cond) × (cond_tree d ≡ x) × ((shape x).1 ≡ cond_tokens d) × (cond_qualifiers d ≡ []) × (cond_open d ≤ node_depth x)
derived x h = (all_trees x h).1
