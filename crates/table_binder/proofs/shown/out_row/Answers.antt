use Rattle.std.proofs.Common.{◌∙◌}
use Rattle.std.specs.Prelude.{slice_index_or}
use Rattle.table_machine.specs.declared.cell.Cell.TheVariants as cells
use Rattle.table_binder.proofs.RowEnds.{shown_done}
use Rattle.table_binder.proofs.shown.out_row.Goals as goal

pub returns : goal.returns
returns c =
    c.from_vec.ensures ∙ shown_done (λ p. slice_index_or c.args.row.now p cells.Null) c.args.columns.now c.args.places.now c.cells.index c.min-count.result c.min-count.ensures c.cells-test.false _ _ c.cells.invariant
