use Rattle.session_model.proofs.Shows as facts
use Rattle.session_model.proofs.laws.replies_stand.Goals as goal

pub returns : goal.returns
returns c = facts.replies_stand
