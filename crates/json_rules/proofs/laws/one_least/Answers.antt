use Rattle.json_rules.proofs.Ordered.{same_rule, same_place, not_both}
use Rattle.json_rules.proofs.laws.one_least.Goals as goal

pub returns-clause-one : goal.returns-clause-one
returns-clause-one c = λ broken a b p q h k. (same_rule broken a b p q h k, same_place broken a b p q h k)

pub returns-clause-none : goal.returns-clause-none
returns-clause-none c = not_both
