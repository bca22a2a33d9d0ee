use Rattle.std.proofs.Common.{◌≡◌, map, take, drop}
use Rattle.sql_tree.specs.declared.statement.SetPair.{SetPair}
use Rattle.table_machine.specs.Faults.{first_of, place_fault, place_at}
use Rattle.table_machine.specs.Stored.{stored}
use Rattle.table_binder.specs.Sets.{bound_set}
use Rattle.table_binder.proofs.sets.bind_pairs.Given as goal

abbrev pub invariant-pairs : goal.invariant-pairs
invariant-pairs l = record {
  read : first_of (λ (p : SetPair). place_fault (stored l.given) (place_at l.columns p.column p.value)) (drop l.pair-index l.sets) ≡ first_of (λ (p : SetPair). place_fault (stored l.given) (place_at l.columns p.column p.value)) l.sets;
  made : l.bound.items ≡ map (bound_set l.given l.columns) (take l.pair-index l.sets);
}
