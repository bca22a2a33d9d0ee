use Rattle.std.proofs.Common.{◌≡◌, ◌||◌, max, length}
use Rattle.sql_tree.specs.Shapes.{most}
use Rattle.sql_checks.proofs.Gapless.{has, numbers_of}
use Rattle.sql_checks.proofs.parameters.reach_of.Given as goal

abbrev pub invariant-tokens : goal.invariant-tokens
invariant-tokens l = record {
  zero : has 0 (numbers_of l.fn.tokens) ≡ (l.zero || has 0 (numbers_of l.rest));
  highest : most (numbers_of l.fn.tokens) ≡ max l.highest (most (numbers_of l.rest));
}

abbrev pub decreases-tokens : goal.decreases-tokens
decreases-tokens l = length l.rest
