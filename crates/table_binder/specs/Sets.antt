-- Cells that are set in a row, one after the other.
use Rattle.std.specs.Prelude.{List, [], ◌∷◌, slice_set}
use Rattle.sql_tree.specs.declared.condition.Operand.{Operand}
use Rattle.sql_tree.specs.declared.statement.SetPair.{SetPair}
use Rattle.table_machine.specs.declared.cell.Cell.{Cell}
use Rattle.table_machine.specs.declared.table.ColumnDef.{ColumnDef}
use Rattle.table_machine.specs.Columns.{column_place, kind_of}
use Rattle.table_binder.specs.declared.sets.SetCell.{SetCell}
use Rattle.table_binder.specs.Bound.{cell_for}

abbrev pub set_cells : List SetCell → List Cell → List Cell
set_cells [] row = row
set_cells (s ∷ ss) row = set_cells ss (slice_set row s.place s.cell)

-- a pair of SET with its column's place and its value's cell
abbrev pub bound_set : List Operand → List ColumnDef → SetPair → SetCell
bound_set given columns p = record { place = column_place columns p.column; cell = cell_for given (kind_of columns p.column) p.value }
