-- What the bound parts of an UPDATE do.
use Rattle.std.specs.Prelude.{◌≡◌, List, Option}
use Rattle.sql_tree.specs.declared.condition.Cond.{Cond}
use Rattle.sql_tree.specs.declared.condition.Operand.{Operand}
use Rattle.sql_tree.specs.declared.statement.SetPair.{SetPair}
use Rattle.table_binder.specs.declared.sets.SetCell.{SetCell}
use Rattle.table_binder.specs.Sets.{set_cells}
use Rattle.table_machine.specs.declared.cell.Cell.{Cell}
use Rattle.table_rows.specs.declared.filter.Filter.{Filter}
use Rattle.table_machine.specs.declared.table.TableDef.{TableDef}
use Rattle.table_rows.specs.Filters as filters
use Rattle.table_machine.specs.Machine as machine
use Rattle.table_machine.specs.Stored.{stored}

pub record BindsUpdate (given : List Operand) (def : TableDef) (pairs : List SetPair) (cond : Option Cond) (sets : List SetCell) (condition : Option Filter) : Type 0 where
  pub set : (row : List Cell) → set_cells sets row ≡ machine.set_all (stored given) def.columns pairs row
  pub passes : (row : List Cell) → filters.passes condition row ≡ machine.passes (stored given) def.columns cond row
