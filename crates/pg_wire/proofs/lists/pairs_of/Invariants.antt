use Rattle.std.proofs.Common.{length}
use Rattle.pg_wire.specs.Bodies.{pair_at, listed_at}
use Rattle.pg_wire.proofs.Loops.{Listing}
use Rattle.pg_wire.proofs.lists.pairs_of.Given as goal

abbrev pub invariant-pairs : goal.invariant-pairs
invariant-pairs l = Listing pair_at l.pairs l.rest (listed_at pair_at l.bytes)

abbrev pub decreases-pairs : goal.decreases-pairs
decreases-pairs l = length l.rest
