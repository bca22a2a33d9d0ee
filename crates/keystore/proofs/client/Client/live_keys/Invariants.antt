use Rattle.std.proofs.Common.{◌≡◌, map, take}
use Rattle.keystore.specs.Rings.{live}
use Rattle.keystore.proofs.client.Client.live_keys.Given as goal

abbrev pub invariant-old : goal.invariant-old
invariant-old l = l.keys.items ≡ map live (take l.key-index l.self-inside.past.items)
