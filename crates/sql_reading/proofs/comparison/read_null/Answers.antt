use Rattle.sql_reading.proofs.Steps.{gives_ended, ended, ended_seen, ended_first, ended_second, seen_ok, both_ok}
use Rattle.sql_reading.proofs.comparison.read_null.Goals as goal

pub returns-in_err-word : goal.returns-in_err-word
returns-in_err-word c = gives_ended _ _ _ _ _ (ended_seen _ (ended_first _ (ended _ _ _ _ _ c.from_residual.ensures.1 c.in_err-word.ensures)))

pub returns-in_err-word-2 : goal.returns-in_err-word-2
returns-in_err-word-2 c =
    gives_ended _ _ _ _ _
    (ended_seen _
    (ended_second c.in_ok-word.ensures.2
    (ended_seen _ (ended_second c.read_not-negated.ensures (ended _ _ _ _ _ c.from_residual-in_err-word-2.ensures.1 c.in_err-word-2.ensures)))))

pub returns : goal.returns
returns c = (
  c.read_not-negated.result,
  c.in_ok-test.ensures,
  seen_ok _ (both_ok c.in_ok-word.ensures.2 (seen_ok _ (both_ok c.read_not-negated.ensures c.in_ok-word-2.ensures.2))),
)
