use Rattle.sql_readers.specs.Productions.{side}
use Rattle.sql_reading.proofs.Steps.{gives}
use Rattle.sql_reading.proofs.comparison.read_side.Goals as goal

pub returns-then-is_name : goal.returns-then-is_name
unfolding side
returns-then-is_name c = search (gives, c.if-is_name.ensures, c.read_left.ensures)

pub returns : goal.returns
unfolding side
returns c = search (gives, c.if-is_name.ensures, c.read_value.ensures)
