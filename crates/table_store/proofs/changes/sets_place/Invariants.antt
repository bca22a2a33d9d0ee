use Rattle.std.proofs.Common.{◌≡◌, drop}
use Rattle.table_store.specs.Changing.{sets_place}
use Rattle.table_store.proofs.changes.sets_place.Given as goal

abbrev pub invariant-sets : goal.invariant-sets
invariant-sets l = sets_place l.place (drop l.set-index l.sets) ≡ sets_place l.place l.sets
