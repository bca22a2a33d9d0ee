use Rattle.pg_wire.proofs.FrontMessages.{front_again, front_spelled}
use Rattle.pg_wire.proofs.laws.front_round_trip.Goals as goal

pub returns-clause-again : goal.returns-clause-again
returns-clause-again c = front_again

pub returns-clause-spelled : goal.returns-clause-spelled
returns-clause-spelled c = λ kind body m fits e. front_spelled kind body m fits e
