use Rattle.std.proofs.Common.{◌≡◌, drop}
use Rattle.acra_block.specs.Keys.{key_of}
use Rattle.acra_block.proofs.keys.KeyView.find.Given as goal

abbrev pub invariant-keys : goal.invariant-keys
invariant-keys l = key_of l.id l.self.keys ≡ key_of l.id (drop l.key-index l.self.keys)
