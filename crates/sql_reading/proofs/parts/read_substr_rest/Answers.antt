use Rattle.sql_readers.specs.Productions.{substr_rest}
use Rattle.sql_reading.proofs.Steps.{gives_ended, ended, ended_seen, ended_first, ended_second, seen_ok, both_ok}
use Rattle.sql_reading.proofs.parts.read_substr_rest.Goals as goal

pub returns-in_err-sign : goal.returns-in_err-sign
unfolding substr_rest
returns-in_err-sign c = gives_ended _ _ _ _ _ (ended_seen _ (ended_first _ (ended _ _ _ _ _ c.from_residual.ensures.1 c.in_err-sign.ensures)))

pub returns-in_err-column : goal.returns-in_err-column
unfolding substr_rest
returns-in_err-column c =
    gives_ended _ _ _ _ _
    (ended_seen _
    (ended_second c.in_ok-sign.ensures.2
    (ended_first _ (ended_seen _ (ended_first _ (ended _ _ _ _ _ c.from_residual-in_err-column.ensures.1 c.in_err-column.ensures))))))

pub returns-in_err-sign-2 : goal.returns-in_err-sign-2
unfolding substr_rest
returns-in_err-sign-2 c =
    gives_ended _ _ _ _ _
    (ended_seen _
    (ended_second c.in_ok-sign.ensures.2
    (ended_first _
    (ended_seen _ (ended_second c.in_ok-column.ensures.2 (ended_first _ (ended _ _ _ _ _ c.from_residual-in_err-sign-2.ensures.1 c.in_err-sign-2.ensures)))))))

pub returns-in_err-exactly : goal.returns-in_err-exactly
unfolding substr_rest
returns-in_err-exactly c =
    gives_ended _ _ _ _ _
    (ended_seen _
    (ended_second c.in_ok-sign.ensures.2
    (ended_first _
    (ended_seen _
    (ended_second c.in_ok-column.ensures.2
    (ended_second c.in_ok-sign-2.ensures.2 (ended_first _ (ended _ _ _ _ _ c.from_residual-in_err-exactly.ensures.1 c.in_err-exactly.ensures))))))))

pub returns-in_err-sign-3 : goal.returns-in_err-sign-3
unfolding substr_rest
returns-in_err-sign-3 c =
    gives_ended _ _ _ _ _
    (ended_seen _
    (ended_second c.in_ok-sign.ensures.2
    (ended_first _
    (ended_seen _
    (ended_second c.in_ok-column.ensures.2
    (ended_second c.in_ok-sign-2.ensures.2
    (ended_second c.in_ok-exactly.ensures.2 (ended_first _ (ended _ _ _ _ _ c.from_residual-in_err-sign-3.ensures.1 c.in_err-sign-3.ensures)))))))))

pub returns-in_err-exactly-2 : goal.returns-in_err-exactly-2
unfolding substr_rest
returns-in_err-exactly-2 c =
    gives_ended _ _ _ _ _
    (ended_seen _
    (ended_second c.in_ok-sign.ensures.2
    (ended_first _
    (ended_seen _
    (ended_second c.in_ok-column.ensures.2
    (ended_second c.in_ok-sign-2.ensures.2
    (ended_second c.in_ok-exactly.ensures.2
    (ended_second c.in_ok-sign-3.ensures.2 (ended _ _ _ _ _ c.from_residual-in_err-exactly-2.ensures.1 c.in_err-exactly-2.ensures)))))))))

pub returns-in_err-sign-4 : goal.returns-in_err-sign-4
unfolding substr_rest
returns-in_err-sign-4 c =
    gives_ended _ _ _ _ _
    (ended_seen _
    (ended_second c.in_ok-sign.ensures.2
    (ended_second (seen_ok _ (both_ok c.in_ok-column.ensures.2 (both_ok c.in_ok-sign-2.ensures.2 (both_ok c.in_ok-exactly.ensures.2 (both_ok c.in_ok-sign-3.ensures.2 c.in_ok-exactly-2.ensures.2)))))
    (ended _ _ _ _ _ c.from_residual-in_err-sign-4.ensures.1 c.in_err-sign-4.ensures))))

pub returns : goal.returns
unfolding substr_rest
returns c = (
  c.in_ok-column.ensures.0,
  c.in_ok-column.ensures.1,
  seen_ok _
      (both_ok c.in_ok-sign.ensures.2
      (both_ok (seen_ok _ (both_ok c.in_ok-column.ensures.2 (both_ok c.in_ok-sign-2.ensures.2 (both_ok c.in_ok-exactly.ensures.2 (both_ok c.in_ok-sign-3.ensures.2 c.in_ok-exactly-2.ensures.2))))) c.in_ok-sign-4.ensures.2)),
)
