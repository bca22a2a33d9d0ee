use Rattle.std.proofs.Common.{◌≡◌, ap, ◌∙◌, map}
use Rattle.std.proofs.lemmas.Result.{IfOk-weaker}
use Rattle.table_machine.specs.Machine.{window}
use Rattle.table_machine.specs.Tables.{spelled_row}
use Rattle.table_store.specs.Finding.{given_cells, spelled_items}
use Rattle.table_store.proofs.Windows.{whole_given, items_given}
use Rattle.table_store.proofs.queries.given_rows.Goals as goal

pub returns-in_ok-found-in-All : goal.returns-in_ok-found-in-All
returns-in_ok-found-in-All c =
    let q = c.args.query.now in
    let x = ap (λ w. map (spelled_row c.args.columns.now) (map (λ r. r.now) w)) (c.window-in-All.ensures ∙ ap (window q.limit q.offset) c.deref.ensures.value)
    ∙ whole_given (λ r. r.now) c.args.table.now q.items.now c.args.filter.now c.args.keys.now q.limit q.offset c.args.rows.now c.in_ok-found-in-All.found.items c.args.columns.now c.in_ok-found-in-All.ensures c.in-All.is in
    IfOk-weaker c.whole_rows-in-All.result
    (λ out. out ≡ map (spelled_row c.args.columns.now) (map (λ r. r.now) c.window-in-All.result.now))
    (λ out. out ≡ map (spelled_row c.args.columns.now) (given_cells c.args.table.now q.items.now c.args.filter.now c.args.keys.now q.limit q.offset c.args.rows.now))
    (λ out e. e ∙ x)
    c.whole_rows-in-All.ensures

pub returns-in_ok-found-in-Columns : goal.returns-in_ok-found-in-Columns
returns-in_ok-found-in-Columns c =
    let q = c.args.query.now in
    let x = ap (λ w. map (spelled_items c.args.columns.now c.deref-in-Columns-2.result.now) (map (λ r. r.now) w)) (c.window-in-Columns.ensures ∙ ap (window q.limit q.offset) c.deref-in-Columns.ensures.value)
    ∙ items_given (λ r. r.now) c.args.table.now q.items.now c.args.filter.now c.args.keys.now q.limit q.offset c.args.rows.now c.in_ok-found-in-Columns.found.items c.args.columns.now c.in_ok-found-in-Columns.ensures
    _ c.deref-in-Columns-2.result.now c.in-Columns.is (c.deref-in-Columns-2.ensures.value ∙ (c.in_ok-places-in-Columns.ensures ∙ ap (map _) c.as_slice.ensures)) in
    IfOk-weaker c.item_rows.result
    (λ out. out ≡ map (spelled_items c.args.columns.now c.deref-in-Columns-2.result.now) (map (λ r. r.now) c.window-in-Columns.result.now))
    (λ out. out ≡ map (spelled_row c.args.columns.now) (given_cells c.args.table.now q.items.now c.args.filter.now c.args.keys.now q.limit q.offset c.args.rows.now))
    (λ out e. e ∙ x)
    c.item_rows.ensures
