use Rattle.std.proofs.Common.{refl}
use Rattle.std.specs.Prelude.{None}
use Rattle.sql_reading.proofs.Steps.{none_ok, gives_some}
use Rattle.sql_reading.proofs.statements.read_start.Goals as goal

pub returns-then-not-begins_statement : goal.returns-then-not-begins_statement
returns-then-not-begins_statement c = (None, refl, none_ok _ _ _ c.if-not-begins_statement.ensures)

pub returns : goal.returns
returns c = gives_some _ _ _ _ _ _ c.if-not-begins_statement.ensures c.read_body.ensures
