use Rattle.sql_patterns.proofs.Read.{made_some}
use Rattle.sql_patterns.proofs.pattern.pattern_of.Goals as goal

pub returns-in-Some : goal.returns-in-Some
returns-in-Some c = made_some c.args.tokens.now c.in-Some.tree (rw c.in-Some.is at c.in_ok-tree.ensures) (search) _ c.plain_pattern.ensures

pub returns-in-None : goal.returns-in-None
returns-in-None c = λ tree s stand plain. (rw c.in-None.is at c.in_ok-tree.ensures) tree s
