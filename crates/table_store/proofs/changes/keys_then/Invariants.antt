use Rattle.std.proofs.Common.{◌≡◌, map, take}
use Rattle.table_rows.specs.Looking.{seen}
use Rattle.table_store.specs.Changing.{keys_in, chosen_rows}
use Rattle.table_store.proofs.changes.keys_then.Given as goal

abbrev pub invariant-rows : goal.invariant-rows
invariant-rows l = map seen l.keys.items ≡ keys_in l.place (chosen_rows (take l.index l.rows) (take l.index l.changed))
