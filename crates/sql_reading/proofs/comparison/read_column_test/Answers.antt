use Rattle.sql_reading.proofs.Named.{column_gives}
use Rattle.sql_reading.proofs.Steps.{gives_ended, ended, ended_first}
use Rattle.sql_reading.proofs.comparison.read_column_test.Goals as goal

pub returns-in_err-column : goal.returns-in_err-column
returns-in_err-column c = gives_ended _ _ _ _ _ (ended_first _ (ended _ _ _ _ _ c.from_residual.ensures.1 c.in_err-column.ensures))

pub returns : goal.returns
returns c = column_gives _ _ _ _ _ _ _ c.in_ok-column.ensures.2 c.in_ok-column.ensures.1 c.read_column_tail.ensures
