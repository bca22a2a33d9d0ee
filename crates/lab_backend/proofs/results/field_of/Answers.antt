use Rattle.std.proofs.Common.{arith}
use Rattle.lab_backend.proofs.Rows.{column_described}
use Rattle.lab_backend.proofs.results.field_of.Goals as goal

pub returns-clause-described : goal.returns-clause-described
returns-clause-described c =
    column_described c.args.column.now.name c.args.column.now.table c.args.column.now.attribute c.args.column.now.kind c.as_slice.ensures.name (omega arith) (omega arith)
