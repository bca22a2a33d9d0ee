use Rattle.sql_derivations.proofs.Wellformed as facts
use Rattle.sql_derivations.proofs.laws.spelled_is_statement.Goals as goal

pub returns : goal.returns
returns c = facts.spelled_is_statement
