use Rattle.std.proofs.Common.{rules}
use Rattle.table_store.proofs.Selected.{given_same, rows_of}
use Rattle.table_store.proofs.queries.select.Goals as goal

pub returns : goal.returns
returns c =
    let q = c.args.query.now in
    let bound = c.in_ok-filter.ensures in
    let cells = given_same c.args.given.now c.args.table.now q.cond.now c.in_ok-filter.filter bound.1 q.order.now c.in_ok-keys.keys.items (c.in_ok-keys.ensures c.args.given.now) q.items.now q.limit q.offset c.args.rows.now in
    (bound.0, rows_of _ _ _ _ c.in_ok-columns.ensures (search rules))
