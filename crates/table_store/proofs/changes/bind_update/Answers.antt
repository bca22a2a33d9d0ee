use Rattle.table_machine.specs.Faults.{set_places, where_places}
use Rattle.table_store.proofs.Updated.{fails_of, first_fails, second_fails, both_read}
use Rattle.table_store.proofs.changes.bind_update.Goals as goal

pub returns-in-Err : goal.returns-in-Err
returns-in-Err c =
    first_fails c.args.given.now (set_places c.args.def.now.columns c.args.sets.now) (where_places c.args.def.now.columns c.args.cond.now) _ c.in-Err.fault
    (rw c.as_slice.ensures at (fails_of _ c.bind_sets.result _ c.in-Err.fault c.bind_sets.ensures c.in-Err.is))

pub returns-in-Err-bind_where : goal.returns-in-Err-bind_where
returns-in-Err-bind_where c =
    let a = rw c.as_slice.ensures at c.in-Ok.ensures in
    second_fails c.args.given.now (set_places c.args.def.now.columns c.args.sets.now) (where_places c.args.def.now.columns c.args.cond.now) _ c.in-Err-bind_where.fault a.0
    (rw c.as_slice-in-Ok.ensures at (fails_of _ c.bind_where.result _ c.in-Err-bind_where.fault c.bind_where.ensures c.in-Err-bind_where.is))

pub returns-in-Ok-bind_where : goal.returns-in-Ok-bind_where
returns-in-Ok-bind_where c =
    let a = rw c.as_slice.ensures at c.in-Ok.ensures in
    let b = rw c.as_slice-in-Ok.ensures at c.in-Ok-bind_where.ensures in
    (both_read c.args.given.now (set_places c.args.def.now.columns c.args.sets.now) (where_places c.args.def.now.columns c.args.cond.now) a.0 b.0, record { set = a.1; passes = b.1 })
