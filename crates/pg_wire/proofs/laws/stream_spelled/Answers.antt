use Rattle.pg_wire.proofs.RunLaws.{stream_spelled}
use Rattle.pg_wire.proofs.laws.stream_spelled.Goals as goal

pub returns : goal.returns
returns c = record { spelled = stream_spelled }
