use Rattle.std.proofs.Common.{◌≡◌, ◌-◌, []}
use Rattle.ring_file.specs.Reading.{old_keys_at}
use Rattle.ring_file.proofs.clients.old_keys_of.Given as goal

abbrev pub invariant-keys : goal.invariant-keys
invariant-keys l = old_keys_at l.next l.clients (l.count - l.counter) l.past.items l.rest ≡ old_keys_at l.next l.clients l.count [] l.bytes
