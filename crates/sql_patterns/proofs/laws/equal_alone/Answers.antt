use Rattle.sql_patterns.proofs.Equal.{same_statements, own_statement}
use Rattle.sql_patterns.proofs.laws.equal_alone.Goals as goal

pub returns : goal.returns
returns c = record { same = same_statements; itself = own_statement }
