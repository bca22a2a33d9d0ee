use Rattle.std.proofs.Common.{◌≡◌, map, take}
use Rattle.table_store.specs.Changing.{replacement}
use Rattle.table_store.proofs.changes.replacements.Given as goal

abbrev pub invariant-rows : goal.invariant-rows
invariant-rows l = l.changed.items ≡ map (replacement l.filter l.sets) (take l.row-index l.rows)
