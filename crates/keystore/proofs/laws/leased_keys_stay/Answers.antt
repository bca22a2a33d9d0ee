use Rattle.keystore.specs.Answers.{with_lease}
use Rattle.keystore.specs.Moves.{after}
use Rattle.keystore.proofs.Leased.{held_lease, held_after, held_live}
use Rattle.keystore.proofs.laws.leased_keys_stay.Goals as goal

pub returns : goal.returns
returns c = record { stay = λ r who id moves kept used keeps. held_live r.next_ticket id who (after (with_lease r) moves) (held_after r.next_ticket id who (with_lease r) moves keeps (held_lease r who id kept used)) }
