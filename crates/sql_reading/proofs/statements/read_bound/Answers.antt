use Rattle.std.proofs.Common.{refl, ap}
use Rattle.std.specs.Prelude.{Some, None}
use Rattle.sql_reading.proofs.Steps.{gives_ended, ended, ended_seen, ended_second, ended_some, seen_ok, both_ok, some_ok, none_left}
use Rattle.sql_reading.proofs.statements.read_bound.Goals as goal

pub returns-then-not-eat_word : goal.returns-then-not-eat_word
returns-then-not-eat_word c = (None, refl, none_left _ _ _ _ c.if-not-eat_word.ensures.0 c.if-not-eat_word.ensures.1)

pub returns-in_err-bound : goal.returns-in_err-bound
returns-in_err-bound c =
    gives_ended _ _ _ _ _
    (ended_some _ c.if-not-eat_word.ensures.1
    (ended_seen _ (ended_second c.if-not-eat_word.ensures.0 (ended _ _ _ _ _ c.from_residual.ensures.1 c.in_err-bound.ensures))))

pub returns : goal.returns
returns c =
    let bound = c.in_ok-bound.ensures in
    (Some bound.0, ap Some bound.1, some_ok _ c.if-not-eat_word.ensures.1 (seen_ok _ (both_ok c.if-not-eat_word.ensures.0 bound.2)))
