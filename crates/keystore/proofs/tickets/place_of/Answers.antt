use Rattle.std.proofs.Common.{arith}
use Rattle.keystore.specs.Rings.{is_ticket}
use Rattle.keystore.proofs.Items.{none_passes}
use Rattle.keystore.proofs.tickets.place_of.Goals as goal

pub returns : goal.returns
returns c = none_passes (is_ticket c.args.number) c.args.out.now (λ k d lt. c.tickets.invariant k d (omega arith))
