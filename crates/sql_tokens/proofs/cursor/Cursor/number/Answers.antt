use Rattle.sql_tokens.proofs.Fronts.{number_bad}
use Rattle.sql_tokens.proofs.cursor.Cursor.number.Goals as goal

pub returns-in-None : goal.returns-in-None
returns-in-None c = number_bad _ c.requires.some c.requires.starts _ _ c.take_run-digits.ensures.whole c.take_run-digits.ensures.all c.take_run-digits.ensures.stops c.in-None.ensures.none
