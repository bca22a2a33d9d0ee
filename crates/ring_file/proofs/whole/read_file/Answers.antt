use Rattle.std.proofs.Common.{arith, rules}
use Rattle.ring_file.proofs.Fronts.{took_piece}
use Rattle.ring_file.proofs.whole.read_file.Goals as goal

pub returns-then-count-limit-clause-took : goal.returns-then-count-limit-clause-took
returns-then-count-limit-clause-took g c =
    took_piece _ _ _ _ c.read.new.buf c.in-Ok.count c.args.limit c.pieces.invariant.took c.pieces.invariant.short c.in-Ok.ensures.bytes.0 (first_of (search rules, grind arith))

pub returns-in-Err-extend-clause-took : goal.returns-in-Err-extend-clause-took
returns-in-Err-extend-clause-took g c =
    took_piece _ _ _ _ c.read.new.buf c.in-Ok.count c.args.limit c.pieces.invariant.took c.pieces.invariant.short c.in-Ok.ensures.bytes.0 (first_of (search rules, grind arith))
