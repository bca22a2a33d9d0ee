use Rattle.std.proofs.Common.{◌≡◌, ℕ, take, drop, true, false, arith, sym, ap, ◌∙◌}
use Rattle.std.specs.List.{list_all}
use Rattle.acra_base.specs.Client.{is_id_byte}
use Rattle.ring_file.specs.Reading.{comes_after, last_of}
use Rattle.ring_file.proofs.Names.{none_is, some_is, name_short, name_judged, other_bytes, name_then, ok_same}
use Rattle.ring_file.proofs.clients.name_of.Goals as goal

pub returns-then-bytes-from : goal.returns-then-bytes-from
returns-then-bytes-from c = name_short c.args.clients.now c.args.len c.args.bytes.now (omega (arith, c.if-bytes-from.true, c.from.ensures))

pub returns-in-None : goal.returns-in-None
returns-in-None c =
    let clients = c.args.clients.now in
    let bytes = c.args.bytes.now in
    let front = take c.args.len bytes in
    let cut = c.split_at.ensures.front ∙ ap (λ (n : ℕ). take n bytes) c.from-2.ensures in
    let other : list_all is_id_byte front ≡ false = ap (list_all is_id_byte) (sym cut) ∙ none_is (list_all is_id_byte c.split_at.result.0.now) c.split_at.result.0.now c.in-None.ensures in
    name_judged clients c.args.len bytes false (omega (arith, c.if-bytes-from.false, c.from.ensures)) (other_bytes clients front other)

pub returns-then-comes_after : goal.returns-then-comes_after
returns-then-comes_after c =
    let clients = c.args.clients.now in
    let bytes = c.args.bytes.now in
    let front = take c.args.len bytes in
    let cut = c.split_at.ensures.front ∙ ap (λ (n : ℕ). take n bytes) c.from-2.ensures in
    let back = c.split_at.ensures.back ∙ ap (λ (n : ℕ). drop n bytes) c.from-2.ensures in
    let found = some_is (list_all is_id_byte c.split_at.result.0.now) c.split_at.result.0.now c.in-Some.name c.in-Some.ensures in
    let name : c.in-Some.name ≡ front = found.1 ∙ cut in
    let each : list_all is_id_byte front ≡ true = ap (list_all is_id_byte) (sym cut) ∙ found.0 in
    let after : comes_after (last_of clients) front ≡ true = ap (comes_after (last_of clients)) (sym name) ∙ sym c.if-comes_after.ensures in
    name_judged clients c.args.len bytes true (omega (arith, c.if-bytes-from.false, c.from.ensures)) (name_then clients front true each after)
    ∙ ok_same front c.in-Some.name (drop c.args.len bytes) c.split_at.result.1.now (sym name) (sym back)

pub returns-else-comes_after : goal.returns-else-comes_after
returns-else-comes_after c =
    let clients = c.args.clients.now in
    let bytes = c.args.bytes.now in
    let front = take c.args.len bytes in
    let cut = c.split_at.ensures.front ∙ ap (λ (n : ℕ). take n bytes) c.from-2.ensures in
    let found = some_is (list_all is_id_byte c.split_at.result.0.now) c.split_at.result.0.now c.in-Some.name c.in-Some.ensures in
    let name : c.in-Some.name ≡ front = found.1 ∙ cut in
    let each : list_all is_id_byte front ≡ true = ap (list_all is_id_byte) (sym cut) ∙ found.0 in
    let after : comes_after (last_of clients) front ≡ false = ap (comes_after (last_of clients)) (sym name) ∙ sym c.if-comes_after.ensures in
    name_judged clients c.args.len bytes false (omega (arith, c.if-bytes-from.false, c.from.ensures)) (name_then clients front false each after)
