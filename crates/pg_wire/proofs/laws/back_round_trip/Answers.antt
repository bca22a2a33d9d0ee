use Rattle.pg_wire.proofs.BackMessages.{back_again, back_spelled}
use Rattle.pg_wire.proofs.laws.back_round_trip.Goals as goal

pub returns-clause-again : goal.returns-clause-again
returns-clause-again c = back_again

pub returns-clause-spelled : goal.returns-clause-spelled
returns-clause-spelled c = λ kind body m fits e. back_spelled kind body m fits e
