use Rattle.std.proofs.Common.{◌∙◌}
use Rattle.lab_session.proofs.Relayed.{nothing_sent, sent_as}
use Rattle.lab_session.proofs.refusing.refuse.Goals as goal

pub returns-in-Err-clause-sent : goal.returns-in-Err-clause-sent
returns-in-Err-clause-sent g c = nothing_sent _ _

pub returns-in-Ok-clause-sent : goal.returns-in-Ok-clause-sent
returns-in-Ok-clause-sent g c = sent_as _ _ c.send.result _ _ (c.deref.ensures.value ∙ c.in-Ok.ensures) c.send.ensures.sent
