use Rattle.sql_readers.specs.Productions.{test}
use Rattle.sql_reading.proofs.Steps.{gives_seen, gives_left, gives_right}
use Rattle.sql_reading.proofs.comparison.read_test.Goals as goal

pub returns-then-is_name : goal.returns-then-is_name
unfolding test
returns-then-is_name c = gives_seen _ _ _ _ _ _ (gives_left _ _ _ _ _ _ _ c.if-is_name.ensures c.read_led_test.ensures)

pub returns : goal.returns
unfolding test
returns c = gives_seen _ _ _ _ _ _ (gives_right _ _ _ _ _ _ _ c.if-is_name.ensures c.read_flipped_test.ensures)
