use Rattle.std.proofs.Common.{◌∙◌, sym}
use Rattle.acra_block.proofs.Pieces.{key_length}
use Rattle.acra_block.proofs.container.open_container.Goals as goal

pub open_value-requires-clause-key : goal.open_value-requires-clause-key
open_value-requires-clause-key g c =
    let aead = c.args.aead.now in
    let key = c.args.key.now in
    let extra = c.args.extra.now in
    key_length c.args.bytes.now _ _ _ c.requires (g.met.A.Aead.only aead key _ extra _ _ (sym c.in_ok-data_key.ensures ∙ c.in-Some.is)) (g.met.A.Aead.longer aead key _ extra _) c.as_slice.ensures
