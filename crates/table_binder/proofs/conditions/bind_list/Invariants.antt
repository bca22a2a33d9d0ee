use Rattle.std.proofs.Common.{◌≡◌, map, take, drop}
use Rattle.table_machine.specs.Faults.{first_of, first_unread, operand_places}
use Rattle.table_machine.specs.Stored.{stored}
use Rattle.table_binder.specs.Bound.{bound_term}
use Rattle.table_binder.proofs.conditions.bind_list.Given as goal

abbrev pub invariant-values : goal.invariant-values
invariant-values l = record {
  read : first_of (λ v. first_unread (stored l.given) (operand_places l.columns l.left v)) (drop l.value-index l.list) ≡ first_of (λ v. first_unread (stored l.given) (operand_places l.columns l.left v)) l.list;
  made : l.terms.items ≡ map (bound_term l.given l.columns l.left) (take l.value-index l.list);
}
