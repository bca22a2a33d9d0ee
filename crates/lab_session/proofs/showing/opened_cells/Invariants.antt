use Rattle.std.proofs.Common.{◌≡◌, ◌++◌, drop}
use Rattle.session_model.specs.Shown.{shown_cells}
use Rattle.lab_session.specs.Cells.{opened_by}
use Rattle.lab_session.proofs.showing.opened_cells.Given as goal

abbrev pub invariant-cells : goal.invariant-cells
invariant-cells l =
    let opened = opened_by l.view in
    l.shown ++ shown_cells opened (drop l.place l.protected) (drop l.place l.cells) ≡ shown_cells opened l.protected l.cells
