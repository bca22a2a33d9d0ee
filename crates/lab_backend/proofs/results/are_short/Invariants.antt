use Rattle.std.proofs.Common.{take}
use Rattle.lab_backend.proofs.Rows.{Leaves}
use Rattle.lab_backend.proofs.results.are_short.Given as goal

abbrev pub invariant-cells : goal.invariant-cells
invariant-cells l = Leaves (take l.cell-index l.cells) l.left
