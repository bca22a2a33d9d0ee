use Rattle.std.proofs.Common.{◌≡◌, take}
use Rattle.std.specs.List.{flat_map}
use Rattle.sql_tree.specs.Spelling.{operand_parameters}
use Rattle.sql_tree.specs.WellFormed.{has_one}
use Rattle.sql_tree.specs.declared.statement.SetPair.{SetPair}
use Rattle.lab_backend.proofs.parameters.has_parameter_in_pairs.Given as goal

abbrev pub invariant-pairs : goal.invariant-pairs
invariant-pairs l = l.any ≡ has_one (flat_map (λ (p : SetPair). operand_parameters p.value) (take l.pair-index l.pairs))
