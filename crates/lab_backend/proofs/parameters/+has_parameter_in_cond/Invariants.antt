use Rattle.std.proofs.Common.{◌≡◌, take}
use Rattle.std.specs.List.{flat_map}
use Rattle.sql_tree.specs.Spelling.{cond_parameters}
use Rattle.sql_tree.specs.WellFormed.{has_one}
use Rattle.lab_backend.proofs.parameters.+has_parameter_in_cond.Given as goal

abbrev pub invariant-ands : goal.invariant-ands
invariant-ands l = l.any ≡ has_one (flat_map cond_parameters (take l.part-index l.part-items))

abbrev pub invariant-ors : goal.invariant-ors
invariant-ors l = l.any ≡ has_one (flat_map cond_parameters (take l.part-index l.part-items))
