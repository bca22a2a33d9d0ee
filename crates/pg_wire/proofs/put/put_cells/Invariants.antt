use Rattle.std.proofs.Common.{◌≡◌, ◌++◌, take}
use Rattle.std.specs.List.{flat_map}
use Rattle.pg_wire.specs.Backs.{cell_bytes}
use Rattle.pg_wire.proofs.put.put_cells.Given as goal

abbrev pub invariant-cells : goal.invariant-cells
invariant-cells l = l.out.items ≡ l.initial.out.items ++ flat_map cell_bytes (take l.cell-index l.cells)
