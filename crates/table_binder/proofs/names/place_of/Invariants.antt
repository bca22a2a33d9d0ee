use Rattle.std.proofs.Common.{◌≡◌, ◌+◌, drop}
use Rattle.table_machine.specs.Columns.{column_place}
use Rattle.table_binder.proofs.names.place_of.Given as goal

abbrev pub invariant-columns : goal.invariant-columns
invariant-columns l = column_place l.columns l.name ≡ column_place (drop l.index l.columns) l.name + l.index
