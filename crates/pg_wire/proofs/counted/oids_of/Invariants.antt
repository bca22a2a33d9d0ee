use Rattle.std.proofs.Common.{◌≡◌, ◌-◌}
use Rattle.std.specs.Int.{w32}
use Rattle.byte_reader.specs.Fields.{be_number_at}
use Rattle.pg_wire.specs.Bodies.{items_at}
use Rattle.pg_wire.proofs.Loops.{with_front}
use Rattle.pg_wire.proofs.counted.oids_of.Given as goal

abbrev pub invariant-oids : goal.invariant-oids
invariant-oids l = with_front l.oids (items_at (be_number_at w32) (l.count - l.counter) l.rest) ≡ items_at (be_number_at w32) l.count l.bytes
