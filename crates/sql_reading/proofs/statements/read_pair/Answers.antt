use Rattle.sql_readers.specs.Productions.{pair}
use Rattle.sql_reading.proofs.Steps.{gives_ended, ended, ended_seen, ended_first, ended_second, seen_ok, both_ok}
use Rattle.sql_reading.proofs.statements.read_pair.Goals as goal

pub returns-in_err-column : goal.returns-in_err-column
unfolding pair
returns-in_err-column c = gives_ended _ _ _ _ _ (ended_seen _ (ended_first _ (ended _ _ _ _ _ c.from_residual.ensures.1 c.in_err-column.ensures)))

pub returns-in_err-sign : goal.returns-in_err-sign
unfolding pair
returns-in_err-sign c =
    gives_ended _ _ _ _ _
    (ended_seen _ (ended_second c.in_ok-column.ensures.2 (ended_first _ (ended _ _ _ _ _ c.from_residual-in_err-sign.ensures.1 c.in_err-sign.ensures))))

pub returns-in_err-value : goal.returns-in_err-value
unfolding pair
returns-in_err-value c =
    gives_ended _ _ _ _ _
    (ended_seen _
    (ended_second c.in_ok-column.ensures.2
    (ended_second c.in_ok-sign.ensures.2 (ended _ _ _ _ _ c.from_residual-in_err-value.ensures.1 c.in_err-value.ensures))))

pub returns : goal.returns
unfolding pair
returns c =
    let column = c.in_ok-column.ensures in
    let value = c.in_ok-value.ensures in
    (record { column = column.0; value = value.0 }, (λ i. record { column = column.1 i; value = value.1 i }), seen_ok _ (both_ok c.in_ok-column.ensures.2 (both_ok c.in_ok-sign.ensures.2 c.in_ok-value.ensures.2)))
