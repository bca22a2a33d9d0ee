use Rattle.std.proofs.Common.{◌≡◌, map, drop}
use Rattle.table_machine.specs.Faults.{first_unread, row_places}
use Rattle.table_machine.specs.Machine.{set_named, new_row}
use Rattle.table_machine.specs.Stored.{stored}
use Rattle.table_binder.proofs.rows.bind_row.Given as goal

abbrev pub invariant-values : goal.invariant-values
invariant-values g l = record {
  read : first_unread (stored l.given) (row_places l.columns (map g.T.Named.name (drop l.index l.names)) (drop l.index l.values)) ≡ first_unread (stored l.given) (row_places l.columns (map g.T.Named.name l.names) l.values);
  made : set_named (stored l.given) l.columns (map g.T.Named.name (drop l.index l.names)) (drop l.index l.values) l.row.items ≡ new_row (stored l.given) l.columns (map g.T.Named.name l.names) l.values;
}
