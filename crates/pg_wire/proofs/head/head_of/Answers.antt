use Rattle.pg_wire.proofs.Heads.{startup_head_is}
use Rattle.pg_wire.proofs.head.head_of.Goals as goal

pub returns-then-opening : goal.returns-then-opening
returns-then-opening c = rw c.if-opening.true (startup_head_is c.args.side c.args.limit _ _ c.counted_head.ensures)
