use Rattle.session_model.proofs.Meant as facts
use Rattle.session_model.proofs.laws.one_meaning.Goals as goal

pub returns : goal.returns
returns c = facts.one_meaning
