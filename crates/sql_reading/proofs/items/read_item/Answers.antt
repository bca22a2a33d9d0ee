use Rattle.sql_readers.specs.Productions.{item}
use Rattle.sql_reading.proofs.Steps.{gives_ended, ended, ended_seen, ended_first, ended_second, seen_ok, both_ok}
use Rattle.sql_reading.proofs.items.read_item.Goals as goal

pub returns-in_err-column : goal.returns-in_err-column
unfolding item
returns-in_err-column c = gives_ended _ _ _ _ _ (ended_seen _ (ended_first _ (ended _ _ _ _ _ c.from_residual.ensures.1 c.in_err-column.ensures)))

pub returns-in_err-label : goal.returns-in_err-label
unfolding item
returns-in_err-label c =
    gives_ended _ _ _ _ _ (ended_seen _ (ended_second c.in_ok-column.ensures.2 (ended _ _ _ _ _ c.from_residual-in_err-label.ensures.1 c.in_err-label.ensures)))

pub returns : goal.returns
unfolding item
returns c =
    let column = c.in_ok-column.ensures in
    let label = c.in_ok-label.ensures in
    (record { column = column.0; label = label.0 }, (λ i. record { column = column.1 i; label = label.1 i }), seen_ok _ (both_ok c.in_ok-column.ensures.2 c.in_ok-label.ensures.2))
