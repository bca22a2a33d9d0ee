use Rattle.std.proofs.Common.{List, ap, ◌∙◌}
use Rattle.sql_tree.specs.declared.condition.Operand.{Operand}
use Rattle.sql_tree.specs.declared.condition.Cond.TheVariants as tree
use Rattle.sql_tree.specs.Conditions.{not_tree}
use Rattle.sql_reading.proofs.Steps.{gives_ended, ended, ended_seen, ended_first, ended_second, seen_ok, both_ok}
use Rattle.sql_reading.proofs.comparison.read_within.Goals as goal

pub returns-in_err-word : goal.returns-in_err-word
returns-in_err-word c =
    gives_ended _ _ _ _ _ (ended_second c.read_not-negated.ensures (ended_seen _ (ended_first _ (ended _ _ _ _ _ c.from_residual.ensures.1 c.in_err-word.ensures))))

pub returns-in_err-list : goal.returns-in_err-list
returns-in_err-list c =
    gives_ended _ _ _ _ _
    (ended_second c.read_not-negated.ensures
    (ended_seen _ (ended_second c.in_ok-word.ensures.2 (ended _ _ _ _ _ c.from_residual-in_err-list.ensures.1 c.in_err-list.ensures))))

pub returns : goal.returns
returns c =
    let list = c.in_ok-list.ensures in
    ((c.read_not-negated.result, list.0), c.in_ok-test.ensures ∙ ap (λ (l : List Operand). not_tree c.read_not-negated.result (tree.Within c.args.left l)) list.1, both_ok c.read_not-negated.ensures (seen_ok _ (both_ok c.in_ok-word.ensures.2 c.in_ok-list.ensures.2)))
