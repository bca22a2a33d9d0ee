-- The statements that are served: a SELECT of one or two columns of notes, and an INSERT of a number and a string into it.
use Rattle.std.specs.Prelude.{ℕ, ℤ, ◌≡◌, pos, int_le, int_lt, nat_eq, ◌^◌, ◌&&◌, ◌||◌, Bool, true, false, List, [], ◌∷◌, Option, Some, None, is_none}
use Rattle.std.specs.Cmp.Lexicographic.{pointwise}
use Rattle.sql_tree.specs.declared.condition.Cond.{Cond}
use Rattle.sql_tree.specs.declared.condition.Operand.{Operand}
use Rattle.sql_tree.specs.declared.condition.Operand.TheVariants as operand
use Rattle.sql_tree.specs.declared.statement.Item.{Item}
use Rattle.sql_tree.specs.declared.statement.Items.{Items}
use Rattle.sql_tree.specs.declared.statement.Items.TheVariants as select
use Rattle.sql_tree.specs.declared.statement.OrderKey.{OrderKey}
use Rattle.sql_tree.specs.declared.statement.Statement.{Statement}
use Rattle.sql_tree.specs.declared.statement.Statement.TheVariants as statement
use Rattle.sql_tree.specs.Laws.{IsStatement}
use Rattle.session_model.specs.Notes.{notes, id, body}

abbrev pub is_notes : List ℕ → Bool
is_notes table = pointwise nat_eq table notes

-- ---- SELECT

abbrev pub is_column : List ℕ → Bool
is_column name = pointwise nat_eq name id || pointwise nat_eq name body

-- a column under its own name
abbrev pub is_item : Item → Bool
is_item item = is_column item.column && is_none item.label

abbrev pub are_columns_of : List Item → Bool
are_columns_of [] = false
are_columns_of (a ∷ []) = is_item a
are_columns_of (a ∷ b ∷ []) = is_item a && is_item b
are_columns_of (a ∷ b ∷ c ∷ more) = false

abbrev pub are_items : Items → Bool
are_items (select.Columns items) = are_columns_of items
are_items select.All = false
are_items (select.Count label) = false

-- no condition, no order and no limits
abbrev pub is_bare : Option Cond → List OrderKey → Option ℕ → Option ℕ → Bool
is_bare cond [] limit offset = is_none cond && (is_none limit && is_none offset)
is_bare cond (key ∷ keys) limit offset = false

-- ---- INSERT

-- no list of columns, or both in their order
abbrev pub are_columns : Option (List (List ℕ)) → Bool
are_columns None = true
are_columns (Some []) = false
are_columns (Some (a ∷ [])) = false
are_columns (Some (a ∷ b ∷ [])) = pointwise nat_eq a id && pointwise nat_eq b body
are_columns (Some (a ∷ b ∷ c ∷ more)) = false

abbrev pub is_number : ℤ → Bool
is_number n = int_le (pos 0) n && int_lt n (pos (2 ^ 63))

-- a number below 2^63 and a string
abbrev pub is_row : List Operand → Bool
is_row (operand.Number n ∷ operand.Text text ∷ []) = is_number n
is_row row = false

-- one row
abbrev pub are_rows : List (List Operand) → Bool
are_rows (row ∷ []) = is_row row
are_rows rows = false

-- ---- a statement

abbrev pub is_served : Statement → Bool
is_served (statement.Select table items cond order limit offset) = is_notes table && (is_bare cond order limit offset && are_items items)
is_served (statement.Insert table columns rows) = is_notes table && (are_columns columns && are_rows rows)
is_served tree = false

-- a statement that is served, and that some text spells
pub record IsServed (tree : Statement) : Type 0 where
  pub served : is_served tree ≡ true
  pub statement : IsStatement tree
