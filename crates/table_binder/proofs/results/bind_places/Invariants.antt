use Rattle.std.proofs.Common.{◌≡◌, map, take}
use Rattle.table_binder.specs.Keys.{bound_key}
use Rattle.table_binder.proofs.results.bind_places.Given as goal

abbrev pub invariant-keys : goal.invariant-keys
invariant-keys l = l.keys.items ≡ map (bound_key l.columns) (take l.key-index l.order)
