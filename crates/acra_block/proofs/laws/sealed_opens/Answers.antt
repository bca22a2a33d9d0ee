use Rattle.acra_block.proofs.Sealed.{cell_opens}
use Rattle.acra_block.proofs.laws.sealed_opens.Goals as goal

pub returns : goal.returns
returns g c =
    let aead = c.args._aead.now in
    let laws = g.met.A.Aead in
    record { plain = λ kind place version k view drawn plain first last. cell_opens (g.A.Aead.sealed aead) (g.A.Aead.opened aead) (laws.opens aead) (laws.only aead) (laws.longer aead) place version first last kind k view drawn plain }
