use Rattle.pg_wire.proofs.OneMessage.{one_front}
use Rattle.pg_wire.proofs.laws.one_front.Goals as goal

pub returns : goal.returns
returns c = record { one = one_front }
