-- Statements that the grammar can shape.
use Rattle.std.specs.Prelude.{ℕ, nat_lt, ◌^◌, Bool, true, false, not, ◌&&◌, ◌||◌, List, [], ◌∷◌, Option, Some, None}
use Rattle.std.specs.List.{list_all}
use Rattle.sql_tree.specs.declared.condition.Operand.{Operand}
use Rattle.sql_tree.specs.declared.condition.Operand.TheVariants as operand
use Rattle.sql_tree.specs.declared.condition.Cond.{Cond}
use Rattle.sql_tree.specs.declared.condition.Cond.TheOpen.{Cond-F}
use Rattle.sql_tree.specs.declared.condition.Cond.TheFolds.{fold-Cond}
use Rattle.sql_tree.specs.declared.statement.Items.{Items}
use Rattle.sql_tree.specs.declared.statement.Items.TheVariants as items
use Rattle.sql_tree.specs.declared.statement.SetPair.{SetPair}
use Rattle.sql_tree.specs.declared.statement.Statement.{Statement}
use Rattle.sql_tree.specs.declared.statement.Statement.TheVariants as statement

-- a column or its first bytes
abbrev pub is_left : Operand → Bool
is_left (operand.Column c) = true
is_left (operand.Prefix33 c) = true
is_left (operand.Text s) = false
is_left (operand.Number n) = false
is_left operand.NullValue = false
is_left (operand.Parameter n) = false

abbrev pub is_value : Operand → Bool
is_value o = not (is_left o)

-- what SET can set a name to
abbrev pub is_setting : Operand → Bool
is_setting (operand.Text s) = true
is_setting (operand.Number n) = true
is_setting _ = false

abbrev pub has_one : {A : Type 0} → List A → Bool
has_one [] = false
has_one (a ∷ more) = true

abbrev pub has_two : {A : Type 0} → List A → Bool
has_two [] = false
has_two (a ∷ more) = has_one more

abbrev pub shaped_step : Cond-F Bool → Bool
shaped_step (Cond-F.And all) = has_two all && list_all (λ b. b) all
shaped_step (Cond-F.Or all) = has_two all && list_all (λ b. b) all
shaped_step (Cond-F.Not a) = a
shaped_step (Cond-F.Compare left op right) = is_left left || is_left right
shaped_step (Cond-F.Within left list) = is_left left && (has_one list && list_all is_value list)
shaped_step (Cond-F.Null column) = true

-- each AND and OR has two parts or more, and each test a column
abbrev pub is_shaped : Cond → Bool
is_shaped = fold-Cond Bool shaped_step

abbrev pub all_shaped : Option Cond → Bool
all_shaped None = true
all_shaped (Some c) = is_shaped c

abbrev pub is_row : List Operand → Bool
is_row row = has_one row && list_all is_value row

abbrev pub is_bound : Option ℕ → Bool
is_bound None = true
is_bound (Some n) = nat_lt n (2 ^ 63)

abbrev pub has_items : Items → Bool
has_items items.All = true
has_items (items.Count label) = true
has_items (items.Columns all) = has_one all

abbrev pub has_names : Option (List (List ℕ)) → Bool
has_names None = true
has_names (Some names) = has_one names

abbrev pub is_grammatical : Statement → Bool
is_grammatical statement.Empty = true
is_grammatical (statement.Set name value) = is_setting value
is_grammatical (statement.Select table all cond order limit offset) = has_items all && (all_shaped cond && (is_bound limit && is_bound offset))
is_grammatical (statement.Insert table columns rows) = has_names columns && (has_one rows && list_all is_row rows)
is_grammatical (statement.Update table sets cond) = has_one sets && (list_all (λ (p : SetPair). is_value p.value) sets && all_shaped cond)
is_grammatical (statement.Delete table cond) = all_shaped cond
