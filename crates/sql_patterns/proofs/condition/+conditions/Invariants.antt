use Rattle.std.proofs.Common.{◌≡◌, drop}
use Rattle.sql_patterns.specs.Matching.{all_match, cond_matches}
use Rattle.sql_patterns.proofs.condition.+conditions.Given as goal

abbrev pub invariant-all_conds_match-each : goal.invariant-all_conds_match-each
invariant-all_conds_match-each l = all_match (cond_matches l.holes) l.patterns l.conds ≡ all_match (cond_matches l.holes) (drop l.index l.patterns) (drop l.index l.conds)
