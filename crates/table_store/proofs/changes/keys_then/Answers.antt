use Rattle.std.proofs.Common.{arith, rules}
use Rattle.table_store.proofs.Steps.{keys_more}
use Rattle.table_store.proofs.changes.keys_then.Goals as goal

pub rows-preserved : goal.rows-preserved
rows-preserved c =
    let e = keys_more c.args.place c.args.rows.now c.args.changed.now c.rows.index c.index-rows-index.result c.index-changed-index.result c.rows.keys.items c.key_then.result (omega arith) (omega arith) c.rows.invariant (search rules) in
    search rules
