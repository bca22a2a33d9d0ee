use Rattle.std.proofs.Common.{arith}
use Rattle.keystore.specs.Answers.{with_lease}
use Rattle.keystore.proofs.Moving.{next_after}
use Rattle.keystore.proofs.laws.given_once.Goals as goal

pub returns : goal.returns
returns c = record { later = λ r moves. let above = next_after (with_lease r) moves in omega (arith, above) }
