use Rattle.std.proofs.Common.{◌≡◌, ◌≤◌, ◌+◌, drop}
use Rattle.acra_block.specs.Characters.{count_characters}
use Rattle.acra_block.proofs.cut.characters.Given as goal

abbrev pub invariant-bytes : goal.invariant-bytes
invariant-bytes l = (count_characters l.text ≡ l.count + count_characters (drop l.place l.text)) × (l.count ≤ l.place)
