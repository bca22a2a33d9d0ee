use Rattle.std.proofs.Common.{refl}
use Rattle.std.specs.Prelude.{Some, None}
use Rattle.sql_readers.specs.Productions.{where_clause}
use Rattle.sql_reading.proofs.Steps.{gives_ended, ended, ended_seen, ended_second, ended_some, seen_ok, both_ok, some_ok, none_left}
use Rattle.sql_reading.proofs.statements.read_where.Goals as goal

pub returns-then-not-eat_word : goal.returns-then-not-eat_word
unfolding where_clause
returns-then-not-eat_word c = (None, refl, none_left _ _ _ _ c.if-not-eat_word.ensures.0 c.if-not-eat_word.ensures.1)

pub returns-in_err-nested : goal.returns-in_err-nested
unfolding where_clause
returns-in_err-nested c =
    gives_ended _ _ _ _ _
    (ended_some _ c.if-not-eat_word.ensures.1
    (ended_seen _ (ended_second c.if-not-eat_word.ensures.0 (ended _ _ _ _ _ c.from_residual.ensures.1 c.in_err-nested.ensures))))

pub returns : goal.returns
unfolding where_clause
returns c =
    let nested = c.in_ok-nested.ensures in
    (Some nested.0, (λ i. record { cond = Some (nested.1 i).cond; deepest = (nested.1 i).deepest }), some_ok _ c.if-not-eat_word.ensures.1 (seen_ok _ (both_ok c.if-not-eat_word.ensures.0 nested.2)))
