use Rattle.std.proofs.Common.{◌/◌, ◌^◌}
use lib.Bits.{and_mask}
use Rattle.acra_crypto.proofs.ghash.word_of.Goals as goal

pub returns : goal.returns
returns c = and_mask (c.args.x / 2 ^ c.args.low) 32
