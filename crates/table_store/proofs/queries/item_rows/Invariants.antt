use Rattle.std.proofs.Common.{◌≡◌, map, take}
use Rattle.table_store.specs.Finding.{spelled_items}
use Rattle.table_store.proofs.queries.item_rows.Given as goal

abbrev pub invariant-rows : goal.invariant-rows
invariant-rows l = l.out ≡ map (spelled_items l.columns l.places) (map (λ r. r.now) (take l.row-index l.rows))
