use Rattle.sql_derivations.proofs.Outcomes as facts
use Rattle.sql_derivations.proofs.laws.one_outcome.Goals as goal

pub returns : goal.returns
returns c = facts.one_outcome
