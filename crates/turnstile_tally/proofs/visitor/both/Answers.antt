use Rattle.turnstile_tally.proofs.Standing.{stand_both}
use Rattle.turnstile_tally.proofs.visitor.both.Goals as goal

pub returns-clause-stand : goal.returns-clause-stand
returns-clause-stand g c = stand_both _ _ _ _ _ _ _ _ _ c.join-one.ensures.first c.join-one.ensures.second c.join.ensures.seat
