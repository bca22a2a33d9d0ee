use Rattle.std.proofs.Common.{◌≡◌, take}
use Rattle.lab_backend.proofs.results.copied.Given as goal

abbrev pub invariant-cells : goal.invariant-cells
invariant-cells l = l.copy ≡ take l.cell-index l.row
