use Rattle.sql_derivations.proofs.Parsed as facts
use Rattle.sql_derivations.proofs.laws.one_statement.Goals as goal

pub returns : goal.returns
returns c = facts.one_statement
