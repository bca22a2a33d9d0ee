use Rattle.std.proofs.Common.{◌-◌, length}
use Rattle.sql_patterns.proofs.Segments.{SoFar}
use Rattle.sql_patterns.proofs.lexing.read_tokens.Given as goal

abbrev pub invariant-segments : goal.invariant-segments
invariant-segments l = SoFar l.text l.tokens l.from

abbrev pub decreases-segments : goal.decreases-segments
decreases-segments l = length l.text - l.from
