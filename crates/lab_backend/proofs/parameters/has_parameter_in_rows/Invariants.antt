use Rattle.std.proofs.Common.{◌≡◌, take}
use Rattle.std.specs.List.{flat_map}
use Rattle.sql_tree.specs.Spelling.{operand_parameters}
use Rattle.sql_tree.specs.WellFormed.{has_one}
use Rattle.lab_backend.proofs.parameters.has_parameter_in_rows.Given as goal

abbrev pub invariant-rows : goal.invariant-rows
invariant-rows l = l.any ≡ has_one (flat_map (flat_map operand_parameters) (take l.row-index l.rows))
