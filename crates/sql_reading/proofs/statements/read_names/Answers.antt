use Rattle.std.proofs.Common.{refl, ap}
use Rattle.std.specs.Prelude.{Some, None}
use Rattle.sql_readers.specs.Productions.{names}
use Rattle.sql_reading.proofs.Steps.{gives_ended, ended, ended_seen, ended_first, ended_second, ended_some, seen_ok, both_ok, some_ok, none_ok}
use Rattle.sql_reading.proofs.statements.read_names.Goals as goal

pub returns-then-not-is_sign : goal.returns-then-not-is_sign
unfolding names
returns-then-not-is_sign c = (None, refl, none_ok _ _ _ c.if-not-is_sign.ensures)

pub returns-in_err-sign : goal.returns-in_err-sign
unfolding names
returns-in_err-sign c =
    gives_ended _ _ _ _ _ (ended_some _ c.if-not-is_sign.ensures (ended_seen _ (ended_first _ (ended _ _ _ _ _ c.from_residual.ensures.1 c.in_err-sign.ensures))))

pub returns-in_err-names : goal.returns-in_err-names
unfolding names
returns-in_err-names c =
    gives_ended _ _ _ _ _
    (ended_some _ c.if-not-is_sign.ensures
    (ended_seen _ (ended_second c.in_ok-sign.ensures.2 (ended_first _ (ended _ _ _ _ _ c.from_residual-in_err-names.ensures.1 c.in_err-names.ensures)))))

pub returns-in_err-sign-2 : goal.returns-in_err-sign-2
unfolding names
returns-in_err-sign-2 c =
    gives_ended _ _ _ _ _
    (ended_some _ c.if-not-is_sign.ensures
    (ended_seen _
    (ended_second c.in_ok-sign.ensures.2
    (ended_second c.in_ok-names.ensures.2 (ended _ _ _ _ _ c.from_residual-in_err-sign-2.ensures.1 c.in_err-sign-2.ensures)))))

pub returns : goal.returns
unfolding names
returns c =
    let names = c.in_ok-names.ensures in
    (Some names.0, ap Some names.1, some_ok _ c.if-not-is_sign.ensures (seen_ok _ (both_ok c.in_ok-sign.ensures.2 (both_ok names.2 c.in_ok-sign-2.ensures.2))))
