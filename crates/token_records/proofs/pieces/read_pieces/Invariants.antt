use Rattle.std.proofs.Common.{length}
use Rattle.token_records.proofs.Listed.{SoFar}
use Rattle.token_records.proofs.pieces.read_pieces.Given as goal

abbrev pub invariant-pieces : goal.invariant-pieces
invariant-pieces l = SoFar l.fn.bytes l.pieces l.rest

abbrev pub decreases-pieces : goal.decreases-pieces
decreases-pieces l = length l.rest
