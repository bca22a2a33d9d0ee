use Rattle.token_store.proofs.Staying.{entry_stays, standing_stay}
use Rattle.token_store.proofs.laws.tokens_stay.Goals as goal

pub returns-clause-entry : goal.returns-clause-entry
returns-clause-entry g c = entry_stays (g.A.Aead.sealed c.args._aead.now)

pub returns-clause-standing : goal.returns-clause-standing
returns-clause-standing g c = standing_stay (g.A.Aead.sealed c.args._aead.now)
