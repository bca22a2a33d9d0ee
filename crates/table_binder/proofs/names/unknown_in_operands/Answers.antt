use Rattle.std.proofs.Common.{◌≡◌, ◌∙◌}
use Rattle.table_machine.specs.Faults.{first, operand_names}
use Rattle.table_binder.specs.Naming.{is_unknown}
use Rattle.table_binder.proofs.Firsts.{found, ends, first-flat_map}
use Rattle.table_binder.proofs.names.unknown_in_operands.Goals as goal

pub returns-then-is_some : goal.returns-then-is_some
returns-then-is_some c =
    found (λ o. first (is_unknown c.args.columns.now) (operand_names o)) c.args.list.now c.operands.operand-index c.operand-item.result c.operands-test.true c.operand-item.is c.operands.invariant
    (λ x. x.now) c.unknown_in_operand-found.result c.unknown_in_operand-found.ensures (Rattle.std.proofs.Common.sym c.is_some.ensures ∙ c.if-is_some.true)
    ∙ first-flat_map (is_unknown c.args.columns.now) operand_names c.args.list.now

pub returns : goal.returns
returns c =
    ends (λ o. first (is_unknown c.args.columns.now) (operand_names o)) c.args.list.now c.operands.operand-index c.operands-test.false c.operands.invariant
    ∙ first-flat_map (is_unknown c.args.columns.now) operand_names c.args.list.now
