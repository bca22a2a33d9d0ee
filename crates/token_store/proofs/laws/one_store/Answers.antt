use Rattle.token_store.proofs.Loads.{loads_more}
use Rattle.token_store.proofs.Staying.{loads_once, loads_not_bad, bad_once}
use Rattle.token_store.proofs.laws.one_store.Goals as goal

pub returns-clause-same : goal.returns-clause-same
returns-clause-same g c = loads_once (g.A.Aead.sealed c.args._aead.now) (g.A.Aead.opened c.args._aead.now) (g.met.A.Aead.opens c.args._aead.now)

pub returns-clause-more : goal.returns-clause-more
returns-clause-more g c = loads_more (g.A.Aead.sealed c.args._aead.now)

pub returns-clause-none : goal.returns-clause-none
returns-clause-none g c = loads_not_bad (g.A.Aead.sealed c.args._aead.now) (g.A.Aead.opened c.args._aead.now) (g.met.A.Aead.opens c.args._aead.now)

pub returns-clause-first : goal.returns-clause-first
returns-clause-first g c = bad_once (g.A.Aead.sealed c.args._aead.now) (g.A.Aead.opened c.args._aead.now) (g.met.A.Aead.opens c.args._aead.now)
