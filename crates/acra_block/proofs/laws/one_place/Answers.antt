use Rattle.acra_block.proofs.Placed.{seals_two}
use Rattle.acra_block.proofs.laws.one_place.Goals as goal

pub returns : goal.returns
returns g c = let aead = c.args._aead.now in seals_two (g.A.Aead.sealed aead) (g.A.Aead.opened aead) (g.met.A.Aead.only aead)
