use Rattle.std.proofs.Common.{◌≡◌, map, take}
use Rattle.table_machine.specs.Tables.{spelled_row}
use Rattle.table_store.proofs.queries.whole_rows.Given as goal

abbrev pub invariant-rows : goal.invariant-rows
invariant-rows l = l.out ≡ map (spelled_row l.columns) (map (λ r. r.now) (take l.row-index l.rows))
