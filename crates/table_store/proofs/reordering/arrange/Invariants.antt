use Rattle.std.proofs.Common.{◌≡◌, ◌≤◌, [], length, vec_len, vec_capacity}
use Rattle.table_store.proofs.Permuted.{Moved}
use Rattle.table_store.proofs.reordering.arrange.Given as goal

abbrev pub invariant-places : goal.invariant-places
invariant-places l =
    Moved [] l.places l.place-index l.initial.rows.items l.rows.items l.arranged.items
    × (length l.places ≤ vec_capacity l.arranged)
    × (vec_len l.arranged ≡ l.place-index)
