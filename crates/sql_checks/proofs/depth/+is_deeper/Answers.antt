use Rattle.std.proofs.Common.{ap, ◌∙◌, sym, map, ◌+◌, ◌-◌, nat_lt}
use Rattle.std.proofs.lemmas.List.{take_all}
use Rattle.sql_tree.specs.Shapes.{node_depth, most}
use Rattle.sql_checks.proofs.Deep.{depth-And, depth-Or, one_deeper, none_deeper, no_deeper}
use Rattle.sql_checks.proofs.depth.+is_deeper.Goals as goal

pub returns-then-is_deeper : goal.returns-then-is_deeper
returns-then-is_deeper t c =
    let all = c.as_slice-part-items.result.now in
    one_deeper _ all c.args.allowed (ap node_depth c.in-And.is ∙ depth-And c.in-And.parts ∙ ap (λ xs. most (map node_depth xs) + 1) (sym c.as_slice-part-items.ensures)) c.if-allowed-eq0.false
    c.ands.part-index c.part-item.result c.ands-test.true c.part-item.is (sym c.if-is_deeper.true ∙ c.is_deeper.ensures)

pub ands-preserved : goal.ands-preserved
ands-preserved t c = no_deeper c.as_slice-part-items.result.now c.ands.part-index c.part-item.result _ c.ands-test.true c.part-item.is c.ands.invariant (sym c.if-is_deeper.false ∙ c.is_deeper.ensures)

pub returns-then-is_deeper-2 : goal.returns-then-is_deeper-2
returns-then-is_deeper-2 t c =
    let all = c.as_slice-part-items-in-Or.result.now in
    one_deeper _ all c.args.allowed (ap node_depth c.in-Or.is ∙ depth-Or c.in-Or.parts ∙ ap (λ xs. most (map node_depth xs) + 1) (sym c.as_slice-part-items-in-Or.ensures)) c.if-allowed-eq0-2.false
    c.ors.part-index c.part-item-in-ors.result c.ors-test.true c.part-item-in-ors.is (sym c.if-is_deeper-2.true ∙ c.is_deeper-in-ors.ensures)

pub ors-preserved : goal.ors-preserved
ors-preserved t c = no_deeper c.as_slice-part-items-in-Or.result.now c.ors.part-index c.part-item-in-ors.result _ c.ors-test.true c.part-item-in-ors.is c.ors.invariant (sym c.if-is_deeper-2.false ∙ c.is_deeper-in-ors.ensures)

pub returns-after-ands : goal.returns-after-ands
returns-after-ands t c =
    let all = c.as_slice-part-items.result.now in
    none_deeper _ all c.args.allowed (ap node_depth c.in-And.is ∙ depth-And c.in-And.parts ∙ ap (λ xs. most (map node_depth xs) + 1) (sym c.as_slice-part-items.ensures)) c.if-allowed-eq0.false
    (ap (λ xs. nat_lt (c.args.allowed - 1) (most (map node_depth xs))) (sym (take_all c.ands.part-index all c.ands-test.false)) ∙ c.ands.invariant)

pub returns-after-ors : goal.returns-after-ors
returns-after-ors t c =
    let all = c.as_slice-part-items-in-Or.result.now in
    none_deeper _ all c.args.allowed (ap node_depth c.in-Or.is ∙ depth-Or c.in-Or.parts ∙ ap (λ xs. most (map node_depth xs) + 1) (sym c.as_slice-part-items-in-Or.ensures)) c.if-allowed-eq0-2.false
    (ap (λ xs. nat_lt (c.args.allowed - 1) (most (map node_depth xs))) (sym (take_all c.ors.part-index all c.ors-test.false)) ∙ c.ors.invariant)
