use Rattle.std.proofs.Common.{◌≡◌, ◌++◌, drop}
use Rattle.table_machine.specs.Tables.{spelled_row}
use Rattle.table_binder.proofs.shown.spelled_row.Given as goal

abbrev pub invariant-cells : goal.invariant-cells
invariant-cells l = l.out.items ++ spelled_row (drop l.index l.columns) (drop l.index l.row) ≡ spelled_row l.columns l.row
