use Rattle.sql_readers.specs.Productions.{keys}
use Rattle.sql_reading.proofs.Steps.{gives_ended, ended, ended_seen, ended_first, ended_second, seen_ok, both_ok}
use Rattle.sql_reading.proofs.items.read_keys.Goals as goal

pub returns-in_err-word : goal.returns-in_err-word
unfolding keys
returns-in_err-word c = gives_ended _ _ _ _ _ (ended_seen _ (ended_first _ (ended _ _ _ _ _ c.from_residual.ensures.1 c.in_err-word.ensures)))

pub returns-in_err-keys : goal.returns-in_err-keys
unfolding keys
returns-in_err-keys c =
    gives_ended _ _ _ _ _ (ended_seen _ (ended_second c.in_ok-word.ensures.2 (ended _ _ _ _ _ c.from_residual-in_err-keys.ensures.1 c.in_err-keys.ensures)))

pub returns : goal.returns
unfolding keys
returns c = (c.in_ok-keys.ensures.0, c.in_ok-keys.ensures.1, seen_ok _ (both_ok c.in_ok-word.ensures.2 c.in_ok-keys.ensures.2))
