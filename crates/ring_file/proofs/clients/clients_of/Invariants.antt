use Rattle.std.proofs.Common.{◌≡◌, ◌-◌, []}
use Rattle.std.specs.List.{AllByRecursion}
use Rattle.keystore.specs.Lists.{AscendsBy}
use Rattle.keystore.specs.Kept.{IsOlder}
use Rattle.keystore.specs.declared.client.Client.{Client}
use Rattle.ring_file.specs.Reading.{clients_at}
use Rattle.ring_file.proofs.clients.clients_of.Given as goal

abbrev pub invariant-clients : goal.invariant-clients
invariant-clients l = record {
  sorted : AllByRecursion (λ (c : Client). AscendsBy IsOlder c.past) l.clients.items;
  read : clients_at l.next (l.count - l.counter) l.clients.items l.rest ≡ clients_at l.next l.count [] l.bytes;
}
