use Rattle.sql_readers.specs.Productions.{bool_of}
use Rattle.sql_reading.proofs.Steps.{seen_ok, some_ok, none_left}
use Rattle.sql_reading.proofs.statements.read_semicolon.Goals as goal

pub returns-then-eat_sign : goal.returns-then-eat_sign
returns-then-eat_sign c = seen_ok bool_of (some_ok _ c.if-eat_sign.ensures.1 c.if-eat_sign.ensures.0)

pub returns : goal.returns
returns c = seen_ok bool_of (none_left _ _ _ _ c.if-eat_sign.ensures.0 c.if-eat_sign.ensures.1)
