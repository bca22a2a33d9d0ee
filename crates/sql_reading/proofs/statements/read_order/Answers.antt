use Rattle.std.specs.Prelude.{Some, None}
use Rattle.sql_readers.specs.Productions.{order_clause}
use Rattle.sql_reading.proofs.Steps.{gives_ended, ended, ended_seen, ended_second, ended_some, seen_ok, both_ok, some_ok, none_left}
use Rattle.sql_reading.proofs.statements.read_order.Goals as goal

pub returns-then-not-eat_word : goal.returns-then-not-eat_word
unfolding order_clause
returns-then-not-eat_word c = (None, c.new.ensures, none_left _ _ _ _ c.if-not-eat_word.ensures.0 c.if-not-eat_word.ensures.1)

pub returns-in_err-keys : goal.returns-in_err-keys
unfolding order_clause
returns-in_err-keys c =
    gives_ended _ _ _ _ _
    (ended_some _ c.if-not-eat_word.ensures.1
    (ended_seen _ (ended_second c.if-not-eat_word.ensures.0 (ended _ _ _ _ _ c.from_residual.ensures.1 c.in_err-keys.ensures))))

pub returns : goal.returns
unfolding order_clause
returns c =
    let keys = c.in_ok-keys.ensures in
    (Some keys.0, keys.1, some_ok _ c.if-not-eat_word.ensures.1 (seen_ok _ (both_ok c.if-not-eat_word.ensures.0 keys.2)))
