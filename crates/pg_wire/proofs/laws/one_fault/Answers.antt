use Rattle.pg_wire.proofs.FrameLaws.{one_fault}
use Rattle.pg_wire.proofs.laws.one_fault.Goals as goal

pub returns : goal.returns
returns c = record { one = one_fault }
