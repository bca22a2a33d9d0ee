use Rattle.pg_wire.proofs.FrameLaws.{one_frame}
use Rattle.pg_wire.proofs.laws.one_frame.Goals as goal

pub returns : goal.returns
returns c = record { one = one_frame }
