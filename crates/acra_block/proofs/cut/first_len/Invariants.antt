use Rattle.std.proofs.Common.{◌≡◌, ◌+◌, drop}
use Rattle.acra_block.specs.Characters.{first_len}
use Rattle.acra_block.proofs.cut.first_len.Given as goal

abbrev pub invariant-bytes : goal.invariant-bytes
invariant-bytes l = first_len l.count l.text ≡ l.place + first_len l.left (drop l.place l.text)
