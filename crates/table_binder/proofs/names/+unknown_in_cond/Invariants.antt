use Rattle.std.proofs.Common.{◌≡◌, drop}
use Rattle.table_machine.specs.Faults.{first, first_of, cond_names}
use Rattle.table_binder.specs.Naming.{is_unknown}
use Rattle.table_binder.proofs.names.+unknown_in_cond.Given as goal

abbrev pub invariant-ands : goal.invariant-ands
invariant-ands l = first_of (λ c. first (is_unknown l.columns) (cond_names c)) (drop l.part-index l.part-items) ≡ first_of (λ c. first (is_unknown l.columns) (cond_names c)) l.part-items

abbrev pub invariant-ors : goal.invariant-ors
invariant-ors l = first_of (λ c. first (is_unknown l.columns) (cond_names c)) (drop l.part-index l.part-items) ≡ first_of (λ c. first (is_unknown l.columns) (cond_names c)) l.part-items
