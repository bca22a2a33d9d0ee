use Rattle.std.proofs.Common.{arith}
use Rattle.keystore.specs.Rings.{is_key}
use Rattle.keystore.proofs.Items.{none_passes}
use Rattle.keystore.proofs.phase.place_of.Goals as goal

pub returns : goal.returns
returns c = none_passes (is_key c.args.id) c.args.past.now (λ k d lt. c.keys.invariant k d (omega arith))
