use Rattle.pg_wire.proofs.RunLaws.{one_stream, same_frames}
use Rattle.pg_wire.proofs.laws.one_stream.Goals as goal

pub returns-clause-begins : goal.returns-clause-begins
returns-clause-begins c = one_stream

pub returns-clause-same : goal.returns-clause-same
returns-clause-same c = same_frames
