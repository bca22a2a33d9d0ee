use Rattle.std.proofs.Common.{◌≡◌, length}
use Rattle.sql_tree.specs.Spelling.{tokens_of}
use Rattle.sql_readers.specs.Passes as passes
use Rattle.sql_checks.proofs.qualifiers.agree.Given as goal

abbrev pub invariant-tokens : goal.invariant-tokens
invariant-tokens l = passes.agree l.fn.table (tokens_of l.fn.tokens) ≡ passes.agree l.fn.table (tokens_of l.rest)

abbrev pub decreases-tokens : goal.decreases-tokens
decreases-tokens l = length l.rest
