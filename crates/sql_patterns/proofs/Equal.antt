-- Without holes a statement matches the equal one alone.
use Rattle.std.proofs.Common.{◌≡◌, ℕ, ◌==◌, Bool, true, false, List, [], ◌∷◌, map, refl, sym, ap, subst, ◌∙◌, if◌then◌else◌}
use Rattle.std.specs.Prelude.{◌&&◌, bytes_eq, Option, Some, None}
use Rattle.std.proofs.lemmas.Slice.Eq.{bytes_eq-Decides}
use Rattle.std.proofs.lemmas.Bool.Decides.{Decides-eqb, Decides-int_eq}
use Rattle.sql_tree.specs.declared.condition.Op.{Op}
use Rattle.sql_tree.specs.declared.condition.Op.TheVariants as op
use Rattle.sql_tree.specs.declared.condition.Operand.TheVariants as operand
use Rattle.sql_tree.specs.declared.condition.Cond.{Cond, out-Cond}
use Rattle.sql_tree.specs.declared.condition.Cond.TheOpen.{Cond-F}
use Rattle.sql_tree.specs.declared.condition.Cond.TheViews.{roll-Cond, out-roll-Cond, roll-out-Cond}
use Rattle.sql_tree.specs.declared.condition.Cond.TheFolds.{fold-roll-Cond, ind-Cond, map-Cond}
use Rattle.sql_tree.specs.declared.statement.Items.TheVariants as items
use Rattle.sql_tree.specs.declared.statement.Statement.TheVariants as statement
use Rattle.sql_patterns.specs.Matching.{all_match, both_match, column_matches, op_number, op_matches, operand_matches, apply, match_step, cond_matches, filter_matches, item_matches, items_match, flag_matches, key_matches, pair_matches, number_matches, row_matches, names_match, statement_matches}

both_true : (a b : Bool) → (a && b) ≡ true → (a ≡ true) × (b ≡ true)
both_true true b e = (refl, e)
both_true false b e = cc

both_hold : (a b : Bool) → a ≡ true → b ≡ true → (a && b) ≡ true
both_hold true b d e = e
both_hold false b d e = cc

three_true : (a b c : Bool) → (a && b && c) ≡ true → (a ≡ true) × (b ≡ true) × (c ≡ true)
three_true a b c e =
    let p = both_true (a && b) c e in
    let q = both_true a b p.0 in
    (q.0, q.1, p.1)

three_hold : (a b c : Bool) → a ≡ true → b ≡ true → c ≡ true → (a && b && c) ≡ true
three_hold a b c d e f = both_hold (a && b) c (both_hold a b d e) f

-- ---- a test of equality, and one of lists and of options by it

abbrev Tells : {A : Type 0} → (A → A → Bool) → Type 0
Tells {A = A} test = (x y : A) → test x y ≡ true → x ≡ y

abbrev Holds : {A : Type 0} → (A → A → Bool) → Type 0
Holds {A = A} test = (x : A) → test x x ≡ true

module _ {A : Type 0} (test : A → A → Bool) where
  same_lists : Tells test → (xs ys : List A) → all_match test xs ys ≡ true → xs ≡ ys
  same_lists tells [] [] h = refl
  same_lists tells [] (y ∷ ys) h = cc
  same_lists tells (x ∷ xs) [] h = cc
  same_lists tells (x ∷ xs) (y ∷ ys) h =
      let b = both_true (test x y) (all_match test xs ys) h in
      let first = tells x y b.0 in
      let rest = same_lists tells xs ys b.1 in
      (λ i. first i ∷ rest i)

  own_list : Holds test → (xs : List A) → all_match test xs xs ≡ true
  own_list holds [] = refl
  own_list holds (x ∷ xs) = both_hold (test x x) (all_match test xs xs) (holds x) (own_list holds xs)

  same_options : Tells test → (x y : Option A) → both_match test x y ≡ true → x ≡ y
  same_options tells None None h = refl
  same_options tells None (Some y) h = cc
  same_options tells (Some x) None h = cc
  same_options tells (Some x) (Some y) h = ap Some (tells x y h)

  own_option : Holds test → (x : Option A) → both_match test x x ≡ true
  own_option holds None = refl
  own_option holds (Some x) = holds x

-- ---- names, numbers and operands

same_bytes : Tells bytes_eq
same_bytes a b h = (bytes_eq-Decides a b).0 h

own_bytes : Holds bytes_eq
own_bytes a = (bytes_eq-Decides a a).1 refl

same_columns : Tells (column_matches false)
same_columns a b h = same_bytes a b h

own_column : Holds (column_matches false)
own_column a = own_bytes a

same_numbers : Tells number_matches
same_numbers a b h = (Decides-eqb a b).0 h

own_number : Holds number_matches
own_number a = (Decides-eqb a a).1 refl

same_names : Tells names_match
same_names a b h = same_lists bytes_eq same_bytes a b h

own_names : Holds names_match
own_names a = own_list bytes_eq own_bytes a

op_at : ℕ → Op
op_at n = if n == 0 then op.Eq else if n == 1 then op.Ne else if n == 2 then op.Lt else if n == 3 then op.Le else if n == 4 then op.Gt else op.Ge

numbered : (o : Op) → op_at (op_number o) ≡ o
unfolding op_at
numbered op.Eq = refl
numbered op.Ne = refl
numbered op.Lt = refl
numbered op.Le = refl
numbered op.Gt = refl
numbered op.Ge = refl

same_ops : Tells op_matches
same_ops a b h = sym (numbered a) ∙ ap op_at ((Decides-eqb (op_number a) (op_number b)).0 h) ∙ numbered b

own_op : Holds op_matches
own_op a = (Decides-eqb (op_number a) (op_number a)).1 refl

same_operands : Tells (operand_matches false)
same_operands (operand.Column a) (operand.Column b) h = ap operand.Column (same_bytes a b h)
same_operands (operand.Prefix33 a) (operand.Prefix33 b) h = ap operand.Prefix33 (same_bytes a b h)
same_operands (operand.Text a) (operand.Text b) h = ap operand.Text (same_bytes a b h)
same_operands (operand.Number a) (operand.Number b) h = ap operand.Number ((Decides-int_eq a b).0 h)
same_operands operand.NullValue operand.NullValue h = refl
same_operands (operand.Parameter a) (operand.Parameter b) h = ap operand.Parameter ((Decides-eqb a b).0 h)
same_operands _ _ h = cc

own_operand : Holds (operand_matches false)
own_operand (operand.Column a) = own_bytes a
own_operand (operand.Prefix33 a) = own_bytes a
own_operand (operand.Text a) = own_bytes a
own_operand (operand.Number a) = (Decides-int_eq a a).1 refl
own_operand operand.NullValue = refl
own_operand (operand.Parameter a) = (Decides-eqb a a).1 refl

same_rows : Tells (row_matches false)
same_rows a b h = same_lists (operand_matches false) same_operands a b h

own_row : Holds (row_matches false)
own_row a = own_list (operand_matches false) own_operand a

-- ---- conditions

abbrev Test : Cond → Cond → Bool
Test = cond_matches false

abbrev P : Cond → Type 0
P c = (d : Cond) → Test c d ≡ true → c ≡ d

abbrev Q : Cond → Type 0
Q c = Test c c ≡ true

matched : (x : Cond-F Cond) (d : Cond) → Test (roll-Cond x) d ≡ match_step false (map-Cond Cond (Cond → Bool) Test x) (out-Cond d)
matched x d = λ i. fold-roll-Cond (Cond → Bool) (λ tests cond. match_step false tests (out-Cond cond)) x i d

same_parts : (ys : List ((c : Cond) × P c)) (parts : List Cond) → all_match apply (map Test (map (λ e. e.0) ys)) parts ≡ true → map (λ e. e.0) ys ≡ parts
same_parts [] [] h = refl
same_parts [] (d ∷ ds) h = cc
same_parts (y ∷ ys) [] h = cc
same_parts (y ∷ ys) (d ∷ ds) h =
    let b = both_true (Test y.0 d) (all_match apply (map Test (map (λ e. e.0) ys)) ds) h in
    let first = y.1 d b.0 in
    let rest = same_parts ys ds b.1 in
    (λ i. first i ∷ rest i)

same_layers : (y : Cond-F ((c : Cond) × P c)) (z : Cond-F Cond) →
    match_step false (map-Cond Cond (Cond → Bool) Test (map-Cond ((c : Cond) × P c) Cond (λ e. e.0) y)) z ≡ true → map-Cond ((c : Cond) × P c) Cond (λ e. e.0) y ≡ z
same_layers (Cond-F.And ys) (Cond-F.And parts) h = ap Cond-F.And (same_parts ys parts h)
same_layers (Cond-F.Or ys) (Cond-F.Or parts) h = ap Cond-F.Or (same_parts ys parts h)
same_layers (Cond-F.Not y) (Cond-F.Not part) h = ap Cond-F.Not (y.1 part h)
same_layers (Cond-F.Compare left o right) (Cond-F.Compare other p side) h =
    let b = three_true (operand_matches false left other) (op_matches o p) (operand_matches false right side) h in
    let first = same_operands left other b.0 in
    let second = same_ops o p b.1 in
    let third = same_operands right side b.2 in
    (λ i. Cond-F.Compare (first i) (second i) (third i))
same_layers (Cond-F.Within left list) (Cond-F.Within other values) h =
    let b = both_true (operand_matches false left other) (all_match (operand_matches false) list values) h in
    let first = same_operands left other b.0 in
    let rest = same_rows list values b.1 in
    (λ i. Cond-F.Within (first i) (rest i))
same_layers (Cond-F.Null column) (Cond-F.Null other) h = ap Cond-F.Null (same_bytes column other h)
same_layers _ _ h = cc

same_at : (y : Cond-F ((c : Cond) × P c)) → P (roll-Cond (map-Cond ((c : Cond) × P c) Cond (λ e. e.0) y))
same_at y d h =
    let x = map-Cond ((c : Cond) × P c) Cond (λ e. e.0) y in
    ap roll-Cond (same_layers y (out-Cond d) (sym (matched x d) ∙ h)) ∙ roll-out-Cond d

same_conds : Tells (cond_matches false)
same_conds = ind-Cond P (λ x y is. subst (λ z. P (roll-Cond z)) is (same_at y))

own_parts : (ys : List ((c : Cond) × Q c)) → all_match apply (map Test (map (λ e. e.0) ys)) (map (λ e. e.0) ys) ≡ true
own_parts [] = refl
own_parts (y ∷ ys) = both_hold (Test y.0 y.0) (all_match apply (map Test (map (λ e. e.0) ys)) (map (λ e. e.0) ys)) y.1 (own_parts ys)

own_layer : (y : Cond-F ((c : Cond) × Q c)) →
    match_step false (map-Cond Cond (Cond → Bool) Test (map-Cond ((c : Cond) × Q c) Cond (λ e. e.0) y)) (map-Cond ((c : Cond) × Q c) Cond (λ e. e.0) y) ≡ true
own_layer (Cond-F.And ys) = own_parts ys
own_layer (Cond-F.Or ys) = own_parts ys
own_layer (Cond-F.Not y) = y.1
own_layer (Cond-F.Compare left o right) =
    three_hold (operand_matches false left left) (op_matches o o) (operand_matches false right right) (own_operand left) (own_op o) (own_operand right)
own_layer (Cond-F.Within left list) = both_hold (operand_matches false left left) (all_match (operand_matches false) list list) (own_operand left) (own_row list)
own_layer (Cond-F.Null column) = own_bytes column

own_at : (y : Cond-F ((c : Cond) × Q c)) → Q (roll-Cond (map-Cond ((c : Cond) × Q c) Cond (λ e. e.0) y))
own_at y =
    let x = map-Cond ((c : Cond) × Q c) Cond (λ e. e.0) y in
    matched x (roll-Cond x) ∙ ap (match_step false (map-Cond Cond (Cond → Bool) Test x)) (out-roll-Cond x) ∙ own_layer y

own_cond : Holds (cond_matches false)
own_cond = ind-Cond Q (λ x y is. subst (λ z. Q (roll-Cond z)) is (own_at y))

same_filters : Tells (filter_matches false)
same_filters None None h = refl
same_filters None (Some d) h = cc
same_filters (Some c) None h = cc
same_filters (Some c) (Some d) h = ap Some (same_conds c d h)

own_filter : Holds (filter_matches false)
own_filter None = refl
own_filter (Some c) = own_cond c

-- ---- the other parts of statements

same_items : Tells (item_matches false)
same_items a b h =
    let p = both_true (column_matches false a.column b.column) (both_match bytes_eq a.label b.label) h in
    let column = same_bytes a.column b.column p.0 in
    let label = same_options bytes_eq same_bytes a.label b.label p.1 in
    (λ i. record { column = column i; label = label i })

own_item : Holds (item_matches false)
own_item a = both_hold (column_matches false a.column a.column) (both_match bytes_eq a.label a.label) (own_bytes a.column) (own_option bytes_eq own_bytes a.label)

same_selections : Tells (items_match false)
same_selections items.All items.All h = refl
same_selections (items.Count a) (items.Count b) h = ap items.Count (same_options bytes_eq same_bytes a b h)
same_selections (items.Columns a) (items.Columns b) h = ap items.Columns (same_lists (item_matches false) same_items a b h)
same_selections _ _ h = cc

own_selection : Holds (items_match false)
own_selection items.All = refl
own_selection (items.Count a) = own_option bytes_eq own_bytes a
own_selection (items.Columns a) = own_list (item_matches false) own_item a

same_flags : Tells flag_matches
same_flags true b h = sym h
same_flags false true h = cc
same_flags false false h = refl

own_flag : Holds flag_matches
own_flag true = refl
own_flag false = refl

same_keys : Tells (key_matches false)
same_keys a b h =
    let p = both_true (column_matches false a.column b.column) (flag_matches a.descending b.descending) h in
    let column = same_bytes a.column b.column p.0 in
    let descending = same_flags a.descending b.descending p.1 in
    (λ i. record { column = column i; descending = descending i })

own_key : Holds (key_matches false)
own_key a = both_hold (column_matches false a.column a.column) (flag_matches a.descending a.descending) (own_bytes a.column) (own_flag a.descending)

same_pairs : Tells (pair_matches false)
same_pairs a b h =
    let p = both_true (bytes_eq a.column b.column) (operand_matches false a.value b.value) h in
    let column = same_bytes a.column b.column p.0 in
    let value = same_operands a.value b.value p.1 in
    (λ i. record { column = column i; value = value i })

own_pair : Holds (pair_matches false)
own_pair a = both_hold (bytes_eq a.column a.column) (operand_matches false a.value a.value) (own_bytes a.column) (own_operand a.value)

-- ---- statements

pub same_statements : Tells (statement_matches false)
same_statements statement.Empty statement.Empty h = refl
same_statements (statement.Set name value) (statement.Set other given) h =
    let p = both_true (bytes_eq name other) (operand_matches false value given) h in
    let a = same_bytes name other p.0 in
    let b = same_operands value given p.1 in
    (λ i. statement.Set (a i) (b i))
same_statements (statement.Select table columns cond order limit offset) (statement.Select other selected filter keys most from) h =
    let first = bytes_eq table other && items_match false columns selected && filter_matches false cond filter in
    let p = both_true (first && all_match (key_matches false) order keys && both_match number_matches limit most) (both_match number_matches offset from) h in
    let q = three_true first (all_match (key_matches false) order keys) (both_match number_matches limit most) p.0 in
    let r = three_true (bytes_eq table other) (items_match false columns selected) (filter_matches false cond filter) q.0 in
    let a = same_bytes table other r.0 in
    let b = same_selections columns selected r.1 in
    let c = same_filters cond filter r.2 in
    let d = same_lists (key_matches false) same_keys order keys q.1 in
    let e = same_options number_matches same_numbers limit most q.2 in
    let f = same_options number_matches same_numbers offset from p.1 in
    (λ i. statement.Select (a i) (b i) (c i) (d i) (e i) (f i))
same_statements (statement.Insert table columns rows) (statement.Insert other names values) h =
    let p = three_true (bytes_eq table other) (both_match names_match columns names) (all_match (row_matches false) rows values) h in
    let a = same_bytes table other p.0 in
    let b = same_options names_match same_names columns names p.1 in
    let c = same_lists (row_matches false) same_rows rows values p.2 in
    (λ i. statement.Insert (a i) (b i) (c i))
same_statements (statement.Update table sets cond) (statement.Update other pairs filter) h =
    let p = three_true (bytes_eq table other) (all_match (pair_matches false) sets pairs) (filter_matches false cond filter) h in
    let a = same_bytes table other p.0 in
    let b = same_lists (pair_matches false) same_pairs sets pairs p.1 in
    let c = same_filters cond filter p.2 in
    (λ i. statement.Update (a i) (b i) (c i))
same_statements (statement.Delete table cond) (statement.Delete other filter) h =
    let p = both_true (bytes_eq table other) (filter_matches false cond filter) h in
    let a = same_bytes table other p.0 in
    let b = same_filters cond filter p.1 in
    (λ i. statement.Delete (a i) (b i))
same_statements _ _ h = cc

pub own_statement : Holds (statement_matches false)
own_statement statement.Empty = refl
own_statement (statement.Set name value) = both_hold (bytes_eq name name) (operand_matches false value value) (own_bytes name) (own_operand value)
own_statement (statement.Select table columns cond order limit offset) =
    let first = bytes_eq table table && items_match false columns columns && filter_matches false cond cond in
    both_hold (first && all_match (key_matches false) order order && both_match number_matches limit limit) (both_match number_matches offset offset)
    (three_hold first (all_match (key_matches false) order order) (both_match number_matches limit limit)
    (three_hold (bytes_eq table table) (items_match false columns columns) (filter_matches false cond cond) (own_bytes table) (own_selection columns) (own_filter cond))
    (own_list (key_matches false) own_key order) (own_option number_matches own_number limit))
    (own_option number_matches own_number offset)
own_statement (statement.Insert table columns rows) =
    three_hold (bytes_eq table table) (both_match names_match columns columns) (all_match (row_matches false) rows rows)
    (own_bytes table) (own_option names_match own_names columns) (own_list (row_matches false) own_row rows)
own_statement (statement.Update table sets cond) =
    three_hold (bytes_eq table table) (all_match (pair_matches false) sets sets) (filter_matches false cond cond)
    (own_bytes table) (own_list (pair_matches false) own_pair sets) (own_filter cond)
own_statement (statement.Delete table cond) = both_hold (bytes_eq table table) (filter_matches false cond cond) (own_bytes table) (own_filter cond)
