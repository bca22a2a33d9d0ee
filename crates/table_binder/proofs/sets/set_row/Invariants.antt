use Rattle.std.proofs.Common.{◌≡◌, drop}
use Rattle.table_binder.specs.Sets.{set_cells}
use Rattle.table_binder.proofs.sets.set_row.Given as goal

abbrev pub invariant-sets : goal.invariant-sets
invariant-sets l = set_cells (drop l.set-index l.sets) l.new.items ≡ set_cells l.sets l.row
