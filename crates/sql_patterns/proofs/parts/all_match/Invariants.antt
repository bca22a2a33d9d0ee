use Rattle.std.proofs.Common.{◌≡◌, drop}
use Rattle.sql_patterns.specs.Matching.{all_match}
use Rattle.sql_patterns.proofs.parts.all_match.Given as goal

abbrev pub invariant-each : goal.invariant-each
invariant-each g l = all_match (g.T.Matched.matched l.holes) l.patterns l.parts ≡ all_match (g.T.Matched.matched l.holes) (drop l.index l.patterns) (drop l.index l.parts)
