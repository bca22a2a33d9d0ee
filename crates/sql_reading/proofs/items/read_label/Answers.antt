use Rattle.std.proofs.Common.{refl, ap}
use Rattle.std.specs.Prelude.{Some, None}
use Rattle.sql_readers.specs.Productions.{label}
use Rattle.sql_reading.proofs.Steps.{gives_ended, ended, ended_seen, ended_second, ended_some, seen_ok, both_ok, some_ok, none_left}
use Rattle.sql_reading.proofs.items.read_label.Goals as goal

pub returns-then-not-eat_word : goal.returns-then-not-eat_word
unfolding label
returns-then-not-eat_word c = (None, refl, none_left _ _ _ _ c.if-not-eat_word.ensures.0 c.if-not-eat_word.ensures.1)

pub returns-in_err-name : goal.returns-in_err-name
unfolding label
returns-in_err-name c =
    gives_ended _ _ _ _ _
    (ended_some _ c.if-not-eat_word.ensures.1
    (ended_seen _ (ended_second c.if-not-eat_word.ensures.0 (ended _ _ _ _ _ c.from_residual.ensures.1 c.in_err-name.ensures))))

pub returns : goal.returns
unfolding label
returns c =
    let name = c.in_ok-name.ensures in
    (Some name.0, ap Some name.1, some_ok _ c.if-not-eat_word.ensures.1 (seen_ok _ (both_ok c.if-not-eat_word.ensures.0 name.2)))
