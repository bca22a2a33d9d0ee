use Rattle.sql_readers.specs.Productions.{values}
use Rattle.sql_reading.proofs.Steps.{gives_ended, ended, ended_seen, ended_first, ended_second, seen_ok, both_ok}
use Rattle.sql_reading.proofs.parts.read_values.Goals as goal

pub returns-in_err-sign : goal.returns-in_err-sign
unfolding values
returns-in_err-sign c = gives_ended _ _ _ _ _ (ended_seen _ (ended_first _ (ended _ _ _ _ _ c.from_residual.ensures.1 c.in_err-sign.ensures)))

pub returns-in_err-values : goal.returns-in_err-values
unfolding values
returns-in_err-values c =
    gives_ended _ _ _ _ _
    (ended_seen _ (ended_second c.in_ok-sign.ensures.2 (ended_first _ (ended _ _ _ _ _ c.from_residual-in_err-values.ensures.1 c.in_err-values.ensures))))

pub returns-in_err-sign-2 : goal.returns-in_err-sign-2
unfolding values
returns-in_err-sign-2 c =
    gives_ended _ _ _ _ _
    (ended_seen _
    (ended_second c.in_ok-sign.ensures.2
    (ended_second c.in_ok-values.ensures.2 (ended _ _ _ _ _ c.from_residual-in_err-sign-2.ensures.1 c.in_err-sign-2.ensures))))

pub returns : goal.returns
unfolding values
returns c = (c.in_ok-values.ensures.0, c.in_ok-values.ensures.1, seen_ok _ (both_ok c.in_ok-sign.ensures.2 (both_ok c.in_ok-values.ensures.2 c.in_ok-sign-2.ensures.2)))
