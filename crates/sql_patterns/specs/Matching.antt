-- Which statements a statement matches. With holes, marks in it stand for them: a value hole matches a value, a column hole a
-- column, and a where hole any condition or none. All else is equal, lists in length too; without holes all is.
use Rattle.std.specs.Prelude.{ℕ, Bool, true, false, ◌&&◌, ◌||◌, ◌==◌, List, [], ◌∷◌, bytes_eq, Option, Some, None}
use Rattle.std.specs.Ordering.{int_eq}
use Rattle.sql_tree.specs.declared.condition.Op.{Op}
use Rattle.sql_tree.specs.declared.condition.Op.TheVariants as op
use Rattle.sql_tree.specs.declared.condition.Operand.{Operand}
use Rattle.sql_tree.specs.declared.condition.Operand.TheVariants as operand
use Rattle.sql_tree.specs.declared.condition.Cond.{Cond, out-Cond}
use Rattle.sql_tree.specs.declared.condition.Cond.TheOpen.{Cond-F}
use Rattle.sql_tree.specs.declared.condition.Cond.TheFolds.{fold-Cond}
use Rattle.sql_tree.specs.declared.statement.Item.{Item}
use Rattle.sql_tree.specs.declared.statement.Items.{Items}
use Rattle.sql_tree.specs.declared.statement.Items.TheVariants as items
use Rattle.sql_tree.specs.declared.statement.OrderKey.{OrderKey}
use Rattle.sql_tree.specs.declared.statement.SetPair.{SetPair}
use Rattle.sql_tree.specs.declared.statement.Statement.{Statement}
use Rattle.sql_tree.specs.declared.statement.Statement.TheVariants as statement
use Rattle.sql_patterns.specs.Holes.{value_mark, column_mark, where_mark}

-- two lists of one length, item by item
abbrev pub all_match : {A B : Type 0} → (A → B → Bool) → List A → List B → Bool
all_match test [] [] = true
all_match test [] (y ∷ ys) = false
all_match test (x ∷ xs) [] = false
all_match test (x ∷ xs) (y ∷ ys) = test x y && all_match test xs ys

-- both are there and match, or neither is there
abbrev pub both_match : {A B : Type 0} → (A → B → Bool) → Option A → Option B → Bool
both_match test None None = true
both_match test None (Some y) = false
both_match test (Some x) None = false
both_match test (Some x) (Some y) = test x y

abbrev pub column_matches : (holes : Bool) → List ℕ → List ℕ → Bool
column_matches holes pattern column = (holes && bytes_eq pattern column_mark) || bytes_eq pattern column

-- ---- what stands for a value

abbrev pub op_number : Op → ℕ
op_number op.Eq = 0
op_number op.Ne = 1
op_number op.Lt = 2
op_number op.Le = 3
op_number op.Gt = 4
op_number op.Ge = 5

abbrev pub op_matches : Op → Op → Bool
op_matches pattern other = op_number pattern == op_number other

abbrev pub is_value : Operand → Bool
is_value (operand.Column c) = false
is_value (operand.Prefix33 c) = false
is_value (operand.Text s) = true
is_value (operand.Number n) = true
is_value operand.NullValue = true
is_value (operand.Parameter n) = true

abbrev pub is_text : List ℕ → Operand → Bool
is_text text (operand.Text other) = bytes_eq text other
is_text text _ = false

abbrev pub operand_matches : (holes : Bool) → Operand → Operand → Bool
operand_matches holes (operand.Column c) (operand.Column d) = column_matches holes c d
operand_matches holes (operand.Prefix33 c) (operand.Prefix33 d) = column_matches holes c d
operand_matches holes (operand.Text s) other = (holes && bytes_eq s value_mark && is_value other) || is_text s other
operand_matches holes (operand.Number n) (operand.Number m) = int_eq n m
operand_matches holes operand.NullValue operand.NullValue = true
operand_matches holes (operand.Parameter n) (operand.Parameter m) = n == m
operand_matches holes _ _ = false

-- ---- conditions

abbrev pub apply : {A : Type 0} → (A → Bool) → A → Bool
apply test a = test a

abbrev pub match_step : (holes : Bool) → Cond-F (Cond → Bool) → Cond-F Cond → Bool
match_step holes (Cond-F.And tests) (Cond-F.And parts) = all_match apply tests parts
match_step holes (Cond-F.Or tests) (Cond-F.Or parts) = all_match apply tests parts
match_step holes (Cond-F.Not test) (Cond-F.Not part) = test part
match_step holes (Cond-F.Compare left op right) (Cond-F.Compare other by side) = operand_matches holes left other && op_matches op by && operand_matches holes right side
match_step holes (Cond-F.Within left list) (Cond-F.Within other values) = operand_matches holes left other && all_match (operand_matches holes) list values
match_step holes (Cond-F.Null column) (Cond-F.Null other) = column_matches holes column other
match_step holes _ _ = false

abbrev pub cond_matches : (holes : Bool) → Cond → Cond → Bool
cond_matches holes = fold-Cond (Cond → Bool) (λ tests cond. match_step holes tests (out-Cond cond))

abbrev where_step : Cond-F Bool → Bool
where_step (Cond-F.Null column) = bytes_eq column where_mark
where_step _ = false

-- a where hole
abbrev pub is_where_hole : Cond → Bool
is_where_hole cond = fold-Cond Bool where_step cond

abbrev pub filter_matches : (holes : Bool) → Option Cond → Option Cond → Bool
filter_matches holes None None = true
filter_matches holes None (Some cond) = false
filter_matches holes (Some pattern) None = holes && is_where_hole pattern
filter_matches holes (Some pattern) (Some cond) = (holes && is_where_hole pattern) || cond_matches holes pattern cond

-- ---- statements

abbrev pub item_matches : (holes : Bool) → Item → Item → Bool
item_matches holes p i = column_matches holes p.column i.column && both_match bytes_eq p.label i.label

abbrev pub items_match : (holes : Bool) → Items → Items → Bool
items_match holes items.All items.All = true
items_match holes (items.Count label) (items.Count other) = both_match bytes_eq label other
items_match holes (items.Columns columns) (items.Columns others) = all_match (item_matches holes) columns others
items_match holes _ _ = false

abbrev pub flag_matches : Bool → Bool → Bool
flag_matches true b = b
flag_matches false true = false
flag_matches false false = true

abbrev pub key_matches : (holes : Bool) → OrderKey → OrderKey → Bool
key_matches holes p k = column_matches holes p.column k.column && flag_matches p.descending k.descending

abbrev pub pair_matches : (holes : Bool) → SetPair → SetPair → Bool
pair_matches holes p s = bytes_eq p.column s.column && operand_matches holes p.value s.value

abbrev pub number_matches : ℕ → ℕ → Bool
number_matches n m = n == m

abbrev pub row_matches : (holes : Bool) → List Operand → List Operand → Bool
row_matches holes p r = all_match (operand_matches holes) p r

abbrev pub names_match : List (List ℕ) → List (List ℕ) → Bool
names_match p n = all_match bytes_eq p n

abbrev pub statement_matches : (holes : Bool) → Statement → Statement → Bool
statement_matches holes statement.Empty statement.Empty = true
statement_matches holes (statement.Set name value) (statement.Set other given) = bytes_eq name other && operand_matches holes value given
statement_matches holes (statement.Select table columns cond order limit offset) (statement.Select other items filter keys most from) =
    bytes_eq table other && items_match holes columns items && filter_matches holes cond filter && all_match (key_matches holes) order keys
    && both_match number_matches limit most && both_match number_matches offset from
statement_matches holes (statement.Insert table columns rows) (statement.Insert other names values) =
    bytes_eq table other && both_match names_match columns names && all_match (row_matches holes) rows values
statement_matches holes (statement.Update table sets cond) (statement.Update other pairs filter) =
    bytes_eq table other && all_match (pair_matches holes) sets pairs && filter_matches holes cond filter
statement_matches holes (statement.Delete table cond) (statement.Delete other filter) = bytes_eq table other && filter_matches holes cond filter
statement_matches holes _ _ = false
