use Rattle.std.proofs.Common.{ap, ◌∙◌}
use Rattle.table_rows.specs.Filters.{cell_at}
use Rattle.table_store.specs.Keys.{is_among}
use Rattle.table_store.proofs.Walked.{row_found, row_passed}
use Rattle.table_store.proofs.keys.any_has_key.Goals as goal

pub returns-then-has_key : goal.returns-then-has_key
returns-then-has_key c = λ all held.
    row_found (is_among all) c.args.place c.args.rows.now c.rows.row-index c.row-item.result c.rows-test.true c.row-item.is c.has_key.result
    (c.has_key.ensures all held ∙ ap (is_among all) (c.cell_at.ensures ∙ ap (λ row. cell_at row c.args.place) c.as_slice.ensures)) (c.rows.invariant all held) c.if-has_key.true

pub rows-preserved : goal.rows-preserved
rows-preserved c = λ all held.
    row_passed (is_among all) c.args.place c.args.rows.now c.rows.row-index c.row-item.result c.rows-test.true c.row-item.is c.has_key.result
    (c.has_key.ensures all held ∙ ap (is_among all) (c.cell_at.ensures ∙ ap (λ row. cell_at row c.args.place) c.as_slice.ensures)) (c.rows.invariant all held) c.if-has_key.false
