use Rattle.sql_readers.specs.Productions.{column_tail}
use Rattle.sql_reading.proofs.Steps.{gives}
use Rattle.sql_reading.proofs.comparison.read_column_tail.Goals as goal

pub returns-then-is_word : goal.returns-then-is_word
unfolding column_tail
returns-then-is_word c = search (gives, c.if-is_word.ensures, c.read_null.ensures)

pub returns : goal.returns
unfolding column_tail
returns c = search (gives, c.if-is_word.ensures, c.read_tail.ensures)
