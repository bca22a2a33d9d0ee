use Rattle.std.proofs.Common.{◌∙◌}
use Rattle.table_binder.proofs.RowEnds.{row_done}
use Rattle.table_binder.proofs.shown.spelled_row.Goals as goal

pub returns : goal.returns
returns c = c.from_vec.ensures ∙ row_done c.args.columns.now c.args.row.now c.cells.index c.min-count.result c.min-count.ensures c.cells-test.false _ _ c.cells.invariant
