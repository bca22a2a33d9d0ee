use Rattle.std.proofs.Common.{◌≡◌, false, length}
use Rattle.sql_tree.specs.Spelling.{tokens_of}
use Rattle.sql_patterns.specs.Standing.{all_stand}
use Rattle.sql_patterns.proofs.standing.all_stand.Given as goal

abbrev pub invariant-tokens : goal.invariant-tokens
invariant-tokens l = all_stand false false (tokens_of l.fn.tokens) ≡ all_stand l.dot l.where_ (tokens_of l.left)

abbrev pub decreases-tokens : goal.decreases-tokens
decreases-tokens l = length l.left
