use Rattle.sql_tokens.proofs.Fronts.{parameter_reads, parameter_bad}
use Rattle.sql_tokens.proofs.cursor.Cursor.parameter.Goals as goal

pub returns-in-Some : goal.returns-in-Some
returns-in-Some c = parameter_reads _ c.requires.some c.requires.starts _ _ _ _ c.eat_quote.ensures c.take_run-digits.ensures.whole c.take_run-digits.ensures.all c.take_run-digits.ensures.stops _ c.in-Some.ensures.some

pub returns-in-None : goal.returns-in-None
returns-in-None c = parameter_bad _ c.requires.some c.requires.starts _ _ _ _ c.eat_quote.ensures c.take_run-digits.ensures.whole c.take_run-digits.ensures.all c.take_run-digits.ensures.stops c.in-None.ensures.none
