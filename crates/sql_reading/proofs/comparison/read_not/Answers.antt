use Rattle.sql_readers.specs.Productions.{bool_of}
use Rattle.sql_readers.specs.Productions.{negated}
use Rattle.sql_reading.proofs.Steps.{seen_ok, some_ok, none_left}
use Rattle.sql_reading.proofs.comparison.read_not.Goals as goal

pub returns-then-eat_word : goal.returns-then-eat_word
unfolding negated
returns-then-eat_word c = seen_ok bool_of (some_ok _ c.if-eat_word.ensures.1 c.if-eat_word.ensures.0)

pub returns : goal.returns
unfolding negated
returns c = seen_ok bool_of (none_left _ _ _ _ c.if-eat_word.ensures.0 c.if-eat_word.ensures.1)
