use Rattle.std.proofs.Common.{[]}
use Rattle.keystore.specs.Lists.{AscendsBy}
use Rattle.keystore.specs.Kept.{IsOlder}
use Rattle.keystore.specs.Rings.{ClientKeys}
use Rattle.keystore.proofs.Items.{all_push}
use Rattle.ring_file.specs.Reading.{clients_at}
use Rattle.ring_file.proofs.Loops.{clients_go, clients_fail, clients_done}
use Rattle.ring_file.proofs.Sorted.{client_sorted}
use Rattle.ring_file.proofs.clients.clients_of.Goals as goal

pub returns-in-Err : goal.returns-in-Err
returns-in-Err c =
    clients_fail c.args.next c.args.count c.clients.counter c.clients.clients.items c.clients.rest.now c.in-Err.why (clients_at c.args.next c.args.count [] c.args.bytes.now) c.clients-test.true (rw c.deref.ensures.value at c.in-Err.ensures) c.clients.invariant.read

pub clients-preserved : goal.clients-preserved
clients-preserved c =
    rw c.in_ok-push-in-Ok.ensures.items (record {
      sorted = all_push (λ (d : ClientKeys). AscendsBy IsOlder d.past) c.clients.clients.items c.in-Ok.client c.clients.invariant.sorted (client_sorted c.args.next c.deref.result.now c.clients.rest.now (c.in-Ok.client, c.in-Ok.after.now) c.in-Ok.ensures);
      read = clients_go c.args.next c.args.count c.clients.counter c.clients.clients.items c.clients.rest.now c.in-Ok.client c.in-Ok.after.now (clients_at c.args.next c.args.count [] c.args.bytes.now) c.clients-test.true (rw c.deref.ensures.value at c.in-Ok.ensures) c.clients.invariant.read;
    })

pub returns : goal.returns
returns c = clients_done c.args.next c.args.count c.clients.counter c.clients.clients.items c.clients.rest.now (clients_at c.args.next c.args.count [] c.args.bytes.now) c.clients-test.false c.clients.invariant.read
