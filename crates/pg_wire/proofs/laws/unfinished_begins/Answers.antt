use Rattle.pg_wire.proofs.Unfinished.{unfinished_begins}
use Rattle.pg_wire.proofs.laws.unfinished_begins.Goals as goal

pub returns : goal.returns
returns c = record { begins = unfinished_begins }
