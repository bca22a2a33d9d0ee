use Rattle.sql_readers.specs.Productions.{tail}
use Rattle.sql_reading.proofs.Steps.{gives}
use Rattle.sql_reading.proofs.comparison.read_tail.Goals as goal

pub returns-then-is_op : goal.returns-then-is_op
unfolding tail
returns-then-is_op c = search (gives, c.if-is_op.ensures, c.read_comparison.ensures)

pub returns : goal.returns
unfolding tail
returns c = search (gives, c.if-is_op.ensures, c.read_within.ensures)
