use Rattle.std.proofs.Common.{drop}
use Rattle.session_model.specs.Shown.{shown_cell}
use Rattle.lab_session.specs.Cells.{opened_by}
use Rattle.lab_session.proofs.Protecting.{all_shown}
use Rattle.lab_session.proofs.showing.opened_cells.Goals as goal

pub returns : goal.returns
returns c = all_shown (shown_cell (opened_by c.args.view.now)) (drop c.cells.place c.args.protected.now) c.args.cells.now _ _ c.cells.place c.cells-test.false c.cells.invariant
