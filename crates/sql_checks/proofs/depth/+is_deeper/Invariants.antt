use Rattle.std.proofs.Common.{◌≡◌, take, map, false, ◌-◌}
use Rattle.std.specs.Prelude.{nat_lt}
use Rattle.sql_tree.specs.Shapes.{most, node_depth}
use Rattle.sql_checks.proofs.depth.+is_deeper.Given as goal

abbrev pub invariant-ands : goal.invariant-ands
invariant-ands l = nat_lt (l.fn.allowed - 1) (most (map node_depth (take l.part-index l.part-items))) ≡ false

abbrev pub invariant-ors : goal.invariant-ors
invariant-ors l = nat_lt (l.fn.allowed - 1) (most (map node_depth (take l.part-index l.part-items))) ≡ false
