use Rattle.session_model.proofs.Faulty.{one_bad, bad_stays, bad_says_nothing, bad_is_uncut}
use Rattle.session_model.proofs.laws.bad_messages.Goals as goal

pub returns-clause-one : goal.returns-clause-one
returns-clause-one c phase bytes f g a b = one_bad phase bytes f g a b

pub returns-clause-stays : goal.returns-clause-stays
returns-clause-stays c phase bytes more f a = bad_stays phase bytes more f a

pub returns-clause-no_request : goal.returns-clause-no_request
returns-clause-no_request c phase bytes f a = bad_says_nothing phase bytes f a

pub returns-clause-uncut : goal.returns-clause-uncut
returns-clause-uncut c phase bytes f a cut = bad_is_uncut phase bytes f a cut
