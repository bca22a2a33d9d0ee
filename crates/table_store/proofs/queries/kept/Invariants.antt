use Rattle.std.proofs.Common.{◌≡◌, map, take}
use Rattle.table_store.specs.Finding.{kept_by}
use Rattle.table_store.proofs.queries.kept.Given as goal

abbrev pub invariant-rows : goal.invariant-rows
invariant-rows l = map (λ r. r.now) l.kept.items ≡ kept_by l.filter (take l.row-index l.rows)
