use Rattle.std.proofs.Common.{ap, ◌∙◌, ℕ}
use Rattle.acra_crypto.specs.Gcm.{sum_of_bits}
use Rattle.acra_crypto.proofs.Linear.{words_made}
use Rattle.acra_crypto.proofs.ghash.HashKey.long_product.Goals as goal

pub returns : goal.returns
returns c =
    words_made c.args.x c.args.self.now.h c.args.second.now.h c.args.third.now.h c.args.fourth.now.h _ _ _ _ c.requires.second c.requires.third c.requires.fourth
    (c.word_product-a.ensures ∙ ap (λ (w : ℕ). sum_of_bits 32 w 0 c.args.self.now.h) c.word_of.ensures)
    (c.word_product-b.ensures ∙ ap (λ (w : ℕ). sum_of_bits 32 w 0 c.args.second.now.h) c.word_of-2.ensures)
    (c.word_product-c.ensures ∙ ap (λ (w : ℕ). sum_of_bits 32 w 0 c.args.third.now.h) c.word_of-3.ensures)
    (c.word_product-d.ensures ∙ ap (λ (w : ℕ). sum_of_bits 32 w 0 c.args.fourth.now.h) c.word_of-4.ensures)
