use Rattle.std.proofs.Common.{◌≡◌, ◌-◌}
use Rattle.pg_wire.specs.Bodies.{format_at, items_at}
use Rattle.pg_wire.proofs.Loops.{with_front}
use Rattle.pg_wire.proofs.counted.formats_of.Given as goal

abbrev pub invariant-formats : goal.invariant-formats
invariant-formats l = with_front l.formats (items_at format_at (l.count - l.counter) l.rest) ≡ items_at format_at l.count l.bytes
