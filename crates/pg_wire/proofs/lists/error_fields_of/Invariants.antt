use Rattle.std.proofs.Common.{length}
use Rattle.pg_wire.specs.Bodies.{error_at, listed_at}
use Rattle.pg_wire.proofs.Loops.{Listing}
use Rattle.pg_wire.proofs.lists.error_fields_of.Given as goal

abbrev pub invariant-fields : goal.invariant-fields
invariant-fields l = Listing error_at l.fields l.rest (listed_at error_at l.bytes)

abbrev pub decreases-fields : goal.decreases-fields
decreases-fields l = length l.rest
