use Rattle.std.proofs.Common.{◌≡◌, ℕ, ◌<◌, ◌||◌, false, length, get_or}
use Rattle.sql_checks.proofs.Gapless.{has, numbers_of}
use Rattle.sql_checks.proofs.parameters.mark_all.Given as goal

abbrev pub invariant-tokens : goal.invariant-tokens
invariant-tokens l = (k : ℕ) → k < length l.fn.marks → (get_or l.fn.marks k false || has k (numbers_of l.fn.tokens)) ≡ (get_or l.marks k false || has k (numbers_of l.rest))

abbrev pub decreases-tokens : goal.decreases-tokens
decreases-tokens l = length l.rest
