use Rattle.std.proofs.Common.{map, length}
use Rattle.std.proofs.lemmas.Result.{on_ok_weaker}
use Rattle.pg_wire.specs.declared.back.Back.TheVariants as backs
use Rattle.machine_replies.specs.Replies.{completed, field_of}
use Rattle.lab_backend.proofs.Written.{rows-writable_in_order}
use Rattle.lab_backend.proofs.results.write_outcome.Goals as goal

pub returns-in_ok-write_rows-in-Rows-clause-writable : goal.returns-in_ok-write_rows-in-Rows-clause-writable
returns-in_ok-write_rows-in-Rows-clause-writable c =
    rw c.in-Rows.is
    (on_ok_weaker c.write_completed.result
    (λ last. rows-writable_in_order (backs.Row (map field_of c.in-Rows.columns)) (completed c.args.statement.now (length c.in-Rows.rows)) c.in-Rows.rows
    (rw c.as_slice.ensures at c.in_ok-write_columns-in-Rows.ensures.writable) (rw c.as_slice-in-Rows.ensures at c.in_ok-write_rows-in-Rows.ensures.writable) (rw c.len.ensures at last))
    c.write_completed.ensures.writable)
