use Rattle.std.proofs.Common.{◌≡◌, ◌-◌}
use Rattle.pg_wire.specs.Bodies.{cell_at, items_at}
use Rattle.pg_wire.proofs.Loops.{with_front}
use Rattle.pg_wire.proofs.counted.cells_of.Given as goal

abbrev pub invariant-cells : goal.invariant-cells
invariant-cells l = with_front l.cells (items_at cell_at (l.count - l.counter) l.rest) ≡ items_at cell_at l.count l.bytes
