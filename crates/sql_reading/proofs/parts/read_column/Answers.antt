use Rattle.sql_readers.specs.Productions.{column, column_of}
use Rattle.sql_reading.proofs.Steps.{gives_ended, ended, ended_seen, ended_first, seen_err, seen_ok, both_ok, both_second, gives_by}
use Rattle.sql_reading.proofs.Named.{last_is}
use Rattle.sql_reading.proofs.parts.read_column.Goals as goal

pub returns-in_err-first : goal.returns-in_err-first
unfolding column
returns-in_err-first c = gives_ended _ _ _ _ _ (ended_seen _ (ended_first _ (ended _ _ _ _ _ c.from_residual.ensures.1 c.in_err-first.ensures)))

pub returns : goal.returns
unfolding column
returns c =
    let first = c.in_ok-first.ensures in
    gives_by _ _ _ _ _ _ _ _ (λ rest. column_of (first.0, rest)) (λ rest. last_is first.0 rest c.in_ok-first.first first.1) (λ rest k. seen_ok column_of (both_ok first.2 k)) (λ k. seen_err column_of (both_second first.2 k)) c.read_column_rest.ensures
