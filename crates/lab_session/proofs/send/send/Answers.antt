use Rattle.std.proofs.Common.{refl}
use Rattle.lab_session.proofs.Relayed.{front_sent}
use Rattle.lab_session.proofs.send.send.Goals as goal

pub returns-in-Err-clause-sent : goal.returns-in-Err-clause-sent
returns-in-Err-clause-sent g c = front_sent _ _ c.args.bytes.now _ _ refl c.in-Err.ensures.written
