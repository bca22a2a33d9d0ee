use Rattle.acra_crypto.proofs.Linear.{word_made}
use Rattle.acra_crypto.proofs.ghash.HashKey.word_product.Goals as goal

pub returns : goal.returns
returns c =
    word_made c.args.word c.args.self.now.h _ _ _ _ _ _ _ _ c.entry-a.ensures c.entry-b.ensures c.entry-c.ensures c.entry-d.ensures c.entry-e.ensures c.entry-f.ensures c.entry-g.ensures c.entry-h.ensures
