use Rattle.std.proofs.Common.{◌≡◌, map, take, drop}
use Rattle.table_machine.specs.Faults.{first_of, first_unread, row_places}
use Rattle.table_machine.specs.Machine.{new_row}
use Rattle.table_machine.specs.Stored.{stored}
use Rattle.table_binder.proofs.rows.bind_under.Given as goal

abbrev pub invariant-rows : goal.invariant-rows
invariant-rows g l = record {
  read : first_of (λ vs. first_unread (stored l.given) (row_places l.columns (map g.T.Named.name l.names) vs)) (drop l.values-index l.rows) ≡ first_of (λ vs. first_unread (stored l.given) (row_places l.columns (map g.T.Named.name l.names) vs)) l.rows;
  made : l.new.items ≡ map (new_row (stored l.given) l.columns (map g.T.Named.name l.names)) (take l.values-index l.rows);
}
