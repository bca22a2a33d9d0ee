use Rattle.std.proofs.Common.{◌≡◌, map, take}
use Rattle.keystore.specs.Rings.{line_of}
use Rattle.keystore.proofs.client.Client.lines.Given as goal

abbrev pub invariant-past : goal.invariant-past
invariant-past l = l.lines.items ≡ map line_of (take l.key-index l.self-inside.past.items)
