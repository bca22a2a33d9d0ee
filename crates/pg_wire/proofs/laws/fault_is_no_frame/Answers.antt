use Rattle.pg_wire.proofs.FrameLaws.{fault_is_no_frame}
use Rattle.pg_wire.proofs.laws.fault_is_no_frame.Goals as goal

pub returns : goal.returns
returns c = record { none = fault_is_no_frame }
