use Rattle.token_rule.specs.Rule.{number_count}
use Rattle.token_map.proofs.Numbers.{IsReached, numbers_left}
use Rattle.token_map.proofs.token_map.TokenMap.free_number.Given as goal

abbrev pub invariant-taken : goal.invariant-taken
invariant-taken l = IsReached l.self l.kind l.start l.number

abbrev pub decreases-taken : goal.decreases-taken
decreases-taken l = numbers_left (number_count l.kind) l.start l.number
