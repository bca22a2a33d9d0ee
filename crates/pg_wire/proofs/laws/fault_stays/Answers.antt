use Rattle.pg_wire.proofs.FrameLaws.{fault_stays}
use Rattle.pg_wire.proofs.laws.fault_stays.Goals as goal

pub returns : goal.returns
returns c = record { stays = fault_stays }
