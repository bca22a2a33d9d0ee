use Rattle.std.proofs.Common.{◌≡◌, drop}
use Rattle.table_machine.specs.Faults.{first, first_of, operand_names}
use Rattle.table_binder.specs.Naming.{is_unknown}
use Rattle.table_binder.proofs.names.unknown_in_operands.Given as goal

abbrev pub invariant-operands : goal.invariant-operands
invariant-operands l = first_of (λ o. first (is_unknown l.columns) (operand_names o)) (drop l.operand-index l.list) ≡ first_of (λ o. first (is_unknown l.columns) (operand_names o)) l.list
