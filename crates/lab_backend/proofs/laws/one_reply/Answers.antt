use Rattle.lab_backend.proofs.Answered as facts
use Rattle.lab_backend.proofs.laws.one_reply.Goals as goal

pub returns : goal.returns
returns c = facts.one_reply
