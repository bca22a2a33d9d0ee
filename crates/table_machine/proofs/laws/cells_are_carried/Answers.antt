use Rattle.table_machine.proofs.Statements.{where_carried, sort_carried, select_carried, count_carried, insert_carried, update_carried, delete_carried}
use Rattle.table_machine.proofs.laws.cells_are_carried.Goals as goal

pub returns : goal.returns
returns g c = record {
  kept = λ a b f h columns. where_carried a b f h columns;
  sorted = λ a b f h columns. sort_carried a b f h columns;
  selected = λ a b f h columns. select_carried a b f h columns;
  counted = λ a b f h columns. count_carried a b f h columns;
  inserted = λ a b f h columns. insert_carried a b f h columns;
  updated = λ a b f h columns. update_carried a b f h columns;
  deleted = λ a b f h columns. delete_carried a b f h columns;
}
