use Rattle.sql_tree.specs.declared.condition.Cond.TheVariants as tree
use Rattle.sql_reading.proofs.Steps.{gives_ended, ended, ended_first, ended_second, both_ok}
use Rattle.sql_reading.proofs.comparison.read_comparison.Goals as goal

pub returns-in_err-op : goal.returns-in_err-op
returns-in_err-op c = gives_ended _ _ _ _ _ (ended_first _ (ended _ _ _ _ _ c.from_residual.ensures.1 c.in_err-op.ensures))

pub returns-in_err-right : goal.returns-in_err-right
returns-in_err-right c = gives_ended _ _ _ _ _ (ended_second c.in_ok-op.ensures.2 (ended _ _ _ _ _ c.from_residual-in_err-right.ensures.1 c.in_err-right.ensures))

pub returns : goal.returns
returns c =
    ((c.in_ok-op.ensures.0, c.in_ok-right.ensures.0), (λ i. tree.Compare c.args.left (c.in_ok-op.ensures.1 i) (c.in_ok-right.ensures.1 i)), both_ok c.in_ok-op.ensures.2 c.in_ok-right.ensures.2)
