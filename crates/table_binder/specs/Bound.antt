-- The parts of a statement with places for columns and cells for values.
use Rattle.std.specs.Prelude.{List, map, Option, option_map}
use Rattle.acra_base.specs.declared.kind.ValueKind.{ValueKind}
use Rattle.sql_tree.specs.declared.condition.Operand.{Operand}
use Rattle.sql_tree.specs.declared.condition.Operand.TheVariants as operand
use Rattle.sql_tree.specs.declared.condition.Cond.{Cond}
use Rattle.sql_tree.specs.declared.condition.Cond.TheOpen.{Cond-F}
use Rattle.sql_tree.specs.declared.condition.Cond.TheFolds.{fold-Cond}
use Rattle.table_machine.specs.declared.cell.Cell.{Cell}
use Rattle.table_machine.specs.declared.cell.Cell.TheVariants as cell
use Rattle.table_rows.specs.declared.filter.Filter.{Filter}
use Rattle.table_rows.specs.declared.filter.Filter.TheVariants as filter
use Rattle.table_rows.specs.declared.filter.Term.{Term}
use Rattle.table_rows.specs.declared.filter.Term.TheVariants as term
use Rattle.table_machine.specs.declared.table.ColumnDef.{ColumnDef}
use Rattle.table_machine.specs.Columns.{column_place}
use Rattle.table_machine.specs.Machine.{cell_read, kind_beside}
use Rattle.table_machine.specs.Stored.{stored, operand_read}

module _ (given : List Operand) where
  -- the cell of a value that is read for a column of this kind
  abbrev pub cell_for : ValueKind → Operand → Cell
  cell_for k v = cell_read (stored given) (operand_read given k v)

-- a column or its first bytes
abbrev pub left_term : List ColumnDef → Operand → Term
left_term columns (operand.Column name) = term.Column (column_place columns name)
left_term columns (operand.Prefix33 name) = term.Prefix (column_place columns name)
left_term columns _ = term.Value cell.Null

module _ (given : List Operand) (columns : List ColumnDef) where
  -- an operand beside another one
  abbrev pub bound_term : Operand → Operand → Term
  bound_term beside (operand.Column name) = term.Column (column_place columns name)
  bound_term beside (operand.Prefix33 name) = term.Prefix (column_place columns name)
  bound_term beside (operand.Text text) = term.Value (cell_for given (kind_beside (stored given) columns beside) (operand.Text text))
  bound_term beside (operand.Number n) = term.Value (cell_for given (kind_beside (stored given) columns beside) (operand.Number n))
  bound_term beside operand.NullValue = term.Value (cell_for given (kind_beside (stored given) columns beside) operand.NullValue)
  bound_term beside (operand.Parameter n) = term.Value (cell_for given (kind_beside (stored given) columns beside) (operand.Parameter n))

  abbrev pub bound_step : Cond-F Filter → Filter
  bound_step (Cond-F.And fs) = filter.All fs
  bound_step (Cond-F.Or fs) = filter.Any fs
  bound_step (Cond-F.Not f) = filter.Not f
  bound_step (Cond-F.Compare a o b) = filter.Compare (bound_term b a) o (bound_term a b)
  bound_step (Cond-F.Within a list) = filter.Within (left_term columns a) (map (bound_term a) list)
  bound_step (Cond-F.Null name) = filter.Null (column_place columns name)

  abbrev pub bound_cond : Cond → Filter
  bound_cond = fold-Cond Filter bound_step

  abbrev pub bound_where : Option Cond → Option Filter
  bound_where cond = option_map bound_cond cond
