use Rattle.std.proofs.Common.{◌≡◌, ◌-◌}
use Rattle.pg_wire.specs.Bodies.{field_at, items_at}
use Rattle.pg_wire.proofs.Loops.{with_front}
use Rattle.pg_wire.proofs.columns.fields_of.Given as goal

abbrev pub invariant-fields : goal.invariant-fields
invariant-fields l = with_front l.fields (items_at field_at (l.count - l.counter) l.rest) ≡ items_at field_at l.count l.bytes
