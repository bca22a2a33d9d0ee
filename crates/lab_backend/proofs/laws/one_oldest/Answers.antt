use Rattle.lab_backend.proofs.Known as facts
use Rattle.lab_backend.proofs.laws.one_oldest.Goals as goal

pub returns : goal.returns
returns c = facts.one_oldest
