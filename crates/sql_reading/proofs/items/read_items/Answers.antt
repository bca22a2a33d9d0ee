use Rattle.sql_reading.proofs.Chosen.{columns_is}
use Rattle.sql_readers.specs.Productions.{items}
use Rattle.sql_reading.proofs.Steps.{gives_ended, ended, ended_seen, ended_right, gives_seen, gives_left, gives_right, gives_same, gives_call, gives_name, ended_name}
use Rattle.sql_reading.proofs.items.read_items.Goals as goal

pub returns-then-is_sign : goal.returns-then-is_sign
unfolding items
returns-then-is_sign c = gives_seen _ _ _ _ _ _ (gives_left _ _ _ _ _ _ _ c.if-is_sign.ensures c.read_star.ensures)

pub returns-then-eat_call : goal.returns-then-eat_call
unfolding items
returns-then-eat_call c = gives_seen _ _ _ _ _ _ (gives_right _ _ _ _ _ _ _ c.if-is_sign.ensures (gives_call _ _ _ _ _ _ _ _ c.if-eat_call.ensures c.read_count.ensures))

pub returns-in_err-first : goal.returns-in_err-first
unfolding items
returns-in_err-first c =
    gives_ended _ _ _ _ _
    (ended_seen _
    (ended_right _ _ c.if-is_sign.ensures (ended_name _ _ c.if-eat_call.ensures (ended _ _ _ _ _ c.from_residual.ensures.1 c.in_err-first.ensures))))

pub returns : goal.returns
unfolding items
returns c =
    let first = c.in_ok-first.ensures in
    gives_seen _ _ _ _ _ _
    (gives_right _ _ _ _ _ _ _ c.if-is_sign.ensures
    (gives_name _ _ _ _ _ _ _ _ _ _ c.if-eat_call.ensures first.2
    (gives_same _ _ _ _ _ _ (columns_is first.0 c.in_ok-first.first first.1) c.read_columns.ensures)))
