use Rattle.std.proofs.Common.{◌≡◌, ◌≤◌, length, take}
use Rattle.table_store.specs.Finding.{kept_by}
use Rattle.table_store.proofs.queries.count_kept.Given as goal

abbrev pub invariant-rows : goal.invariant-rows
invariant-rows l = (l.count ≡ length (kept_by l.filter (take l.row-index l.rows))) × (l.count ≤ l.row-index)
