use Rattle.acra_crypto.proofs.Linear.{tables_made}
use Rattle.acra_crypto.proofs.ghash.tables_of.Goals as goal

pub returns : goal.returns
returns c =
    tables_made c.args.h c.shifted_by_four-b.result c.shifted_by_four-c.result c.shifted_by_four-d.result c.shifted_by_four-e.result c.shifted_by_four-f.result c.shifted_by_four-g.result c.shifted_by_four-i.result
    _ _ _ _ _ _ _ _ c.shifted_by_four-b.ensures c.shifted_by_four-c.ensures c.shifted_by_four-d.ensures c.shifted_by_four-e.ensures c.shifted_by_four-f.ensures c.shifted_by_four-g.ensures c.shifted_by_four-i.ensures
    c.products_of.ensures c.products_of-2.ensures c.products_of-3.ensures c.products_of-4.ensures c.products_of-5.ensures c.products_of-6.ensures c.products_of-7.ensures c.products_of-8.ensures
