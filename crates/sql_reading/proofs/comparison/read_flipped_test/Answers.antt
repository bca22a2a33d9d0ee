use Rattle.sql_tree.specs.declared.condition.Cond.TheVariants as tree
use Rattle.sql_tree.specs.Conditions.{flipped}
use Rattle.sql_readers.specs.Productions.{flipped_test}
use Rattle.sql_reading.proofs.Steps.{gives_ended, ended, ended_seen, ended_first, ended_second, seen_ok, both_ok}
use Rattle.sql_reading.proofs.comparison.read_flipped_test.Goals as goal

pub returns-in_err-left : goal.returns-in_err-left
unfolding flipped_test
returns-in_err-left c = gives_ended _ _ _ _ _ (ended_seen _ (ended_first _ (ended _ _ _ _ _ c.from_residual.ensures.1 c.in_err-left.ensures)))

pub returns-in_err-op : goal.returns-in_err-op
unfolding flipped_test
returns-in_err-op c =
    gives_ended _ _ _ _ _
    (ended_seen _ (ended_second c.in_ok-left.ensures.2 (ended_first _ (ended _ _ _ _ _ c.from_residual-in_err-op.ensures.1 c.in_err-op.ensures))))

pub returns-in_err-right : goal.returns-in_err-right
unfolding flipped_test
returns-in_err-right c =
    gives_ended _ _ _ _ _
    (ended_seen _
    (ended_second c.in_ok-left.ensures.2
    (ended_second c.in_ok-op.ensures.2 (ended _ _ _ _ _ c.from_residual-in_err-right.ensures.1 c.in_err-right.ensures))))

pub returns : goal.returns
unfolding flipped_test
returns c =
    let left = c.in_ok-left.ensures in
    let op = c.in_ok-op.ensures in
    let right = c.in_ok-right.ensures in
    (flipped left.0 op.0 right.0, (λ i. tree.Compare (left.1 i) (op.1 i) (right.1 i)), seen_ok _ (both_ok c.in_ok-left.ensures.2 (both_ok c.in_ok-op.ensures.2 c.in_ok-right.ensures.2)))
