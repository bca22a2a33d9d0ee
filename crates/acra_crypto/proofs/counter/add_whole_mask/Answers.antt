use Rattle.std.proofs.Common.{arith}
use Rattle.acra_crypto.proofs.Strings.{xor_bytes_from}
use Rattle.acra_crypto.proofs.counter.add_whole_mask.Goals as goal

pub returns : goal.returns
returns c = xor_bytes_from _ _ _ c.block.invariant.len (λ k h. c.block.invariant.done k (omega arith))
