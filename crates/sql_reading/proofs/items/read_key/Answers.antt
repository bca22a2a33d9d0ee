use Rattle.sql_readers.specs.Productions.{key}
use Rattle.sql_reading.proofs.Steps.{gives_ended, ended, ended_seen, ended_first, seen_ok, both_ok}
use Rattle.sql_reading.proofs.items.read_key.Goals as goal

pub returns-in_err-column : goal.returns-in_err-column
unfolding key
returns-in_err-column c = gives_ended _ _ _ _ _ (ended_seen _ (ended_first _ (ended _ _ _ _ _ c.from_residual.ensures.1 c.in_err-column.ensures)))

pub returns : goal.returns
unfolding key
returns c =
    let column = c.in_ok-column.ensures in
    let direction = c.read_direction-descending.ensures in
    (record { column = column.0; direction = direction.0 }, (λ i. record { column = column.1 i; descending = direction.1 i }), seen_ok _ (both_ok c.in_ok-column.ensures.2 c.read_direction-descending.ensures.2))
