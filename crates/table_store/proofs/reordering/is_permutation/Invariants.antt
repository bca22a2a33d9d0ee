use Rattle.table_store.proofs.Permuted.{Marked}
use Rattle.table_store.proofs.reordering.is_permutation.Given as goal

abbrev pub invariant-places : goal.invariant-places
invariant-places l = Marked l.places l.count l.place-index l.taken.items
