use Rattle.std.proofs.Common.{◌∙◌}
use Rattle.sql_reading.proofs.Chosen.{body_is}
use Rattle.sql_readers.specs.Productions.{whole}
use Rattle.sql_reading.proofs.Steps.{gives_ended, ended, ended_seen, ended_first, seen_ok, both_ok}
use Rattle.sql_reading.proofs.statements.read_whole.Goals as goal

pub returns-in_err-reading : goal.returns-in_err-reading
unfolding whole
returns-in_err-reading c = gives_ended _ _ _ _ _ (ended_seen _ (ended_first _ (ended _ _ _ _ _ c.from_residual.ensures.1 c.in_err-reading.ensures)))

pub returns : goal.returns
unfolding whole
returns c =
    let start = c.in_ok-reading.ensures in
    (record { body = start.0; semicolon = c.read_semicolon-semicolon.result }, start.1 ∙ body_is start.0, seen_ok _ (both_ok c.in_ok-reading.ensures.2 c.read_semicolon-semicolon.ensures))
