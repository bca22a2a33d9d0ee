use Rattle.pg_wire.proofs.Seen.{given_once, left_once}
use Rattle.pg_wire.specs.Streams.{Stream, frame_of, SeesFrame}
use Rattle.pg_wire.proofs.laws.seen_is_given.Goals as goal

pub returns-clause-frame : goal.returns-clause-frame
returns-clause-frame c = λ s t view frame v g. given_once s t v.after frame (frame_of view) g v.gives

pub returns-clause-left : goal.returns-clause-left
returns-clause-left c = left_once
