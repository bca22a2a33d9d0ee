use Rattle.acra_block.proofs.Spelled.{plain_spelled, spelled_plain}
use Rattle.acra_block.proofs.laws.plain_is_spelled.Goals as goal

pub returns : goal.returns
returns g c =
    let aead = c.args._aead.now in
    let laws = g.met.A.Aead in
    record {
      opens = λ extra key bytes plain container in_key in_bytes is. (
        plain_spelled (g.A.Aead.sealed aead) (g.A.Aead.opened aead) (laws.opens aead) (laws.only aead) (laws.longer aead) (laws.in_bytes aead) extra key bytes plain container in_key in_bytes is,
        spelled_plain (g.A.Aead.sealed aead) (g.A.Aead.opened aead) (laws.opens aead) (laws.only aead) (laws.longer aead) (laws.in_bytes aead) extra key bytes plain container,
      );
    }
