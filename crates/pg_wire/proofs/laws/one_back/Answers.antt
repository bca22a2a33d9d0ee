use Rattle.pg_wire.proofs.OneMessage.{one_back}
use Rattle.pg_wire.proofs.laws.one_back.Goals as goal

pub returns : goal.returns
returns c = record { one = one_back }
