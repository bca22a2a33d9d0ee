use Rattle.std.proofs.Common.{◌≡◌, map, take}
use Rattle.table_rows.specs.Looking.{seen}
use Rattle.table_store.specs.Changing.{keys_in}
use Rattle.table_store.proofs.changes.keys_of.Given as goal

abbrev pub invariant-rows : goal.invariant-rows
invariant-rows l = map seen l.keys.items ≡ keys_in l.place (take l.row-index l.rows)
