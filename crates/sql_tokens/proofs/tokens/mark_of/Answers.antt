use Rattle.sql_tokens.proofs.tokens.mark_of.Goals as goal

pub returns-in-Number-clause-fits : goal.returns-in-Number-clause-fits
returns-in-Number-clause-fits c = c.number_mark.ensures.fits _
