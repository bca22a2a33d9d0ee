use Rattle.sql_readers.specs.Productions.{set_sign}
use Rattle.sql_reading.proofs.Steps.{gives_seen, gives_left, gives_right}
use Rattle.sql_reading.proofs.statements.read_set_sign.Goals as goal

pub returns-then-is_sign : goal.returns-then-is_sign
unfolding set_sign
returns-then-is_sign c = gives_seen _ _ _ _ _ _ (gives_left _ _ _ _ _ _ _ c.if-is_sign.ensures c.sign.ensures)

pub returns : goal.returns
unfolding set_sign
returns c = gives_seen _ _ _ _ _ _ (gives_right _ _ _ _ _ _ _ c.if-is_sign.ensures c.word.ensures)
