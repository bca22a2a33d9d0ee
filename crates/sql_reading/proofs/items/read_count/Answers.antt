use Rattle.std.proofs.Common.{ap}
use Rattle.sql_tree.specs.declared.statement.Items.TheVariants as items
use Rattle.sql_reading.proofs.Steps.{gives_ended, ended, ended_seen, ended_first, ended_second, seen_ok, both_ok}
use Rattle.sql_reading.proofs.items.read_count.Goals as goal

pub returns-in_err-sign : goal.returns-in_err-sign
returns-in_err-sign c =
    gives_ended _ _ _ _ _ (ended_seen _ (ended_first _ (ended_seen _ (ended_first _ (ended _ _ _ _ _ c.from_residual.ensures.1 c.in_err-sign.ensures)))))

pub returns-in_err-sign-2 : goal.returns-in_err-sign-2
returns-in_err-sign-2 c =
    gives_ended _ _ _ _ _
    (ended_seen _
    (ended_first _
    (ended_seen _ (ended_second c.in_ok-sign.ensures.2 (ended_first _ (ended _ _ _ _ _ c.from_residual-in_err-sign-2.ensures.1 c.in_err-sign-2.ensures))))))

pub returns-in_err-sign-3 : goal.returns-in_err-sign-3
returns-in_err-sign-3 c =
    gives_ended _ _ _ _ _
    (ended_seen _
    (ended_first _
    (ended_seen _
    (ended_second c.in_ok-sign.ensures.2
    (ended_second c.in_ok-sign-2.ensures.2 (ended _ _ _ _ _ c.from_residual-in_err-sign-3.ensures.1 c.in_err-sign-3.ensures))))))

pub returns-in_err-label : goal.returns-in_err-label
returns-in_err-label c =
    gives_ended _ _ _ _ _
    (ended_seen _
    (ended_second (seen_ok _ (both_ok c.in_ok-sign.ensures.2 (both_ok c.in_ok-sign-2.ensures.2 c.in_ok-sign-3.ensures.2)))
    (ended _ _ _ _ _ c.from_residual-in_err-label.ensures.1 c.in_err-label.ensures)))

pub returns : goal.returns
returns c = (
  c.in_ok-label.ensures.0,
  ap items.Count c.in_ok-label.ensures.1,
  seen_ok _ (both_ok (seen_ok _ (both_ok c.in_ok-sign.ensures.2 (both_ok c.in_ok-sign-2.ensures.2 c.in_ok-sign-3.ensures.2))) c.in_ok-label.ensures.2),
)
