use Rattle.std.proofs.Common.{arith, ap, ◌∙◌, ℕ}
use Rattle.acra_crypto.specs.Gcm.{ghash_from, blocks}
use Rattle.acra_crypto.proofs.Strings.{part_is}
use Rattle.acra_crypto.proofs.Hashing.{hash_none, hash_more}
use Rattle.acra_crypto.proofs.ghash.HashKey.absorb_long.Goals as goal

pub pieces-init : goal.pieces-init
pieces-init c = hash_none _ _ _

pub pieces-preserved : goal.pieces-preserved
pieces-preserved c =
    hash_more c.args.self.now.h c.args.before c.pieces.hash _ _ c.args.bytes.now _ c.pieces.i c.pieces.invariant (part_is c.args.bytes.now c.pieces.i c.min-end.result c.min-end.ensures) c.read_block.ensures c.long_product-hash.ensures

pub returns : goal.returns
returns c = c.pieces.invariant ∙ ap (λ (n : ℕ). ghash_from c.args.self.now.h c.args.before (blocks n c.args.bytes.now)) (omega arith)
