use Rattle.std.proofs.Common.{[]}
use Rattle.ring_file.specs.Reading.{old_keys_at}
use Rattle.ring_file.proofs.Loops.{keys_go, keys_fail, keys_done}
use Rattle.ring_file.proofs.clients.old_keys_of.Goals as goal

pub returns-in-Err : goal.returns-in-Err
returns-in-Err c =
    keys_fail c.args.next c.args.count c.keys.counter c.args.clients.now c.keys.past.items c.keys.rest.now c.in-Err.why (old_keys_at c.args.next c.args.clients.now c.args.count [] c.args.bytes.now) c.keys-test.true (rw c.deref.ensures.value at c.in-Err.ensures) c.keys.invariant

pub keys-preserved : goal.keys-preserved
keys-preserved c =
    rw c.in_ok-push-in-Ok.ensures.items
    (keys_go c.args.next c.args.count c.keys.counter c.args.clients.now c.keys.past.items c.keys.rest.now c.in-Ok.key c.in-Ok.after.now (old_keys_at c.args.next c.args.clients.now c.args.count [] c.args.bytes.now) c.keys-test.true (rw c.deref.ensures.value at c.in-Ok.ensures) c.keys.invariant)

pub returns : goal.returns
returns c = keys_done c.args.next c.args.count c.keys.counter c.args.clients.now c.keys.past.items c.keys.rest.now (old_keys_at c.args.next c.args.clients.now c.args.count [] c.args.bytes.now) c.keys-test.false c.keys.invariant
