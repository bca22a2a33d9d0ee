use Rattle.table_machine.specs.Machine.{select}
use Rattle.table_machine.specs.Stored.{stored}
use Rattle.table_machine.specs.Tables.{Rows, out_columns}
use Rattle.table_store.proofs.Updated.{bound_done}
use Rattle.table_store.proofs.tables.perform.Goals as goal

pub returns-in-Select : goal.returns-in-Select
returns-in-Select c =
    let s = c.in-Select in
    let columns = c.args.def.now.columns in
    let h = rw (c.as_slice.ensures, c.as_slice-in-Select.ensures, c.deref.ensures.value) at c.select.ensures in
    rw s.is (bound_done _ (Rows (out_columns c.args.number columns s.items) (select (stored c.args.given.now) columns s.items s.cond s.order s.limit s.offset c.args.rows.now.items)) c.args.rows.now.items c.select.result h)

pub returns-in-Delete : goal.returns-in-Delete
returns-in-Delete c = rw c.in-Delete.is c.delete.ensures
