use Rattle.std.proofs.Common.{◌≡◌}
use Rattle.acra_crypto.specs.Gcm.{ghash_from, blocks}
use Rattle.acra_crypto.proofs.ghash.HashKey.absorb_long.Given as goal

abbrev pub invariant-pieces : goal.invariant-pieces
invariant-pieces l = l.hash ≡ ghash_from l.self.h l.before (blocks l.i l.bytes)
