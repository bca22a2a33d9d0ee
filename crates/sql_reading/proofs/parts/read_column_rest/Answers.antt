use Rattle.std.proofs.Common.{refl}
use Rattle.std.specs.Prelude.{None}
use Rattle.sql_readers.specs.Productions.{column_rest}
use Rattle.sql_reading.proofs.Steps.{gives, none_left}
use Rattle.sql_reading.proofs.parts.read_column_rest.Goals as goal

pub returns-then-not-eat_sign : goal.returns-then-not-eat_sign
unfolding column_rest
returns-then-not-eat_sign c = (None, refl, none_left _ _ _ _ c.if-not-eat_sign.ensures.0 c.if-not-eat_sign.ensures.1)

pub returns : goal.returns
unfolding column_rest
returns c = search (gives, c.if-not-eat_sign.ensures.0, c.if-not-eat_sign.ensures.1, c.name.ensures)
