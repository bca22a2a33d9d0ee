-- The statement that is sent on: a written string is replaced by the stored bytes in text form.
use Rattle.std.specs.Prelude.{ℕ, nat_eq, Bool, List, [], ◌∷◌, map, Option, Some, None}
use Rattle.std.specs.Cmp.Lexicographic.{pointwise}
use Rattle.acra_base.specs.declared.kind.ValueKind.TheVariants as kind
use Rattle.plain_values.specs.Values.{text_spelling}
use Rattle.sql_tree.specs.declared.condition.Operand.{Operand}
use Rattle.sql_tree.specs.declared.condition.Operand.TheVariants as operand
use Rattle.sql_tree.specs.declared.statement.Item.{Item}
use Rattle.sql_tree.specs.declared.statement.Items.{Items}
use Rattle.sql_tree.specs.declared.statement.Items.TheVariants as select
use Rattle.sql_tree.specs.declared.statement.Statement.{Statement}
use Rattle.sql_tree.specs.declared.statement.Statement.TheVariants as statement
use Rattle.session_model.specs.Notes.{body}

-- stored bytes in text form: \x and lower-case digits
abbrev pub stored_text : List ℕ → List ℕ
stored_text stored = text_spelling kind.Bytes stored

-- ---- the string that a statement writes

abbrev pub written_values : List Operand → Option (List ℕ)
written_values (number ∷ operand.Text text ∷ []) = Some text
written_values values = None

abbrev pub written_rows : List (List Operand) → Option (List ℕ)
written_rows (row ∷ []) = written_values row
written_rows rows = None

abbrev pub written : Statement → Option (List ℕ)
written (statement.Insert table columns rows) = written_rows rows
written tree = None

-- ---- the statement that is sent on

abbrev pub rewritten_value : List ℕ → Operand → Operand
rewritten_value stored (operand.Text text) = operand.Text (stored_text stored)
rewritten_value stored value = value

abbrev pub rewritten : List ℕ → Statement → Statement
rewritten stored (statement.Insert table columns rows) = statement.Insert table columns (map (map (rewritten_value stored)) rows)
rewritten stored tree = tree

-- ---- which columns of a result are protected

abbrev pub is_protected : Item → Bool
is_protected item = pointwise nat_eq item.column body

abbrev pub protected_items : Items → List Bool
protected_items (select.Columns items) = map is_protected items
protected_items all = []

abbrev pub protected_of : Statement → List Bool
protected_of (statement.Select table items cond order limit offset) = protected_items items
protected_of tree = []
