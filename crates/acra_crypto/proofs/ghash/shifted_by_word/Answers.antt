use Rattle.std.proofs.Common.{◌/◌, ◌^◌, ℕ, ap, ◌∙◌, bit_xor}
use lib.Bits.{and_mask}
use Rattle.acra_crypto.proofs.Linear.{word_shifted, reduced_word}
use Rattle.acra_crypto.proofs.ghash.shifted_by_word.Goals as goal

pub returns : goal.returns
unfolding reduced_word
returns c = ap (λ (n : ℕ). bit_xor (c.args.z / 2 ^ 32) (reduced_word n)) (and_mask c.args.z 32) ∙ word_shifted c.args.z
