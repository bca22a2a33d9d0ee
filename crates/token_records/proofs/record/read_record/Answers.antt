use Rattle.std.proofs.Common.{◌+◌, length, sym, arith, rules}
use Rattle.std.proofs.lemmas.List.{length-take-le}
use Rattle.token_records.specs.Reading.{shown}
use Rattle.token_records.proofs.Fronts.{front_takes}
use Rattle.token_records.proofs.Recorded.{front_long, no_record, record_reads, found_record}
use Rattle.token_records.proofs.record.read_record.Goals as goal

pub overflow_add-front : goal.overflow_add-front
overflow_add-front g c =
    let long = front_long c.args.bytes.now (shown c.in-Ok.front) c.in-Ok.text.now (front_takes c.args.bytes.now (shown c.in-Ok.front, c.in-Ok.text.now) (λ i. let b = c.type_inv.bytes i in omega arith) c.in-Ok.ensures) in
    omega (arith, long)

pub slice_bounds-judged-end : goal.slice_bounds-judged-end
slice_bounds-judged-end g c =
    let long = front_long c.args.bytes.now (shown c.in-Ok.front) c.in-Ok.text.now (front_takes c.args.bytes.now (shown c.in-Ok.front, c.in-Ok.text.now) (λ i. let b = c.type_inv.bytes i in omega arith) c.in-Ok.ensures) in
    sym (length-take-le (19 + length c.in-Ok.front.owner.now) c.args.bytes.now long)

pub returns-in-Ok-clause-found : goal.returns-in-Ok-clause-found
returns-in-Ok-clause-found g c =
    let bytes = c.args.bytes.now in
    let front = shown c.in-Ok.front in
    found_record (g.A.Aead.sealed c.args.aead.now) c.args.store_key.now bytes front c.in-Ok.text.now c.judged.result (front_takes bytes (front, c.in-Ok.text.now) (λ i. let b = c.type_inv.bytes i in omega arith) c.in-Ok.ensures) c.judged.ensures.found

pub returns-in-Ok-clause-only : goal.returns-in-Ok-clause-only
returns-in-Ok-clause-only g c =
    record_reads (g.A.Aead.sealed c.args.aead.now) c.args.store_key.now c.args.bytes.now (shown c.in-Ok.front) c.in-Ok.text.now c.judged.result c.in-Ok.ensures c.judged.ensures.only

pub returns-in-Err-At-clause-only : goal.returns-in-Err-At-clause-only
returns-in-Err-At-clause-only g c =
    no_record (g.A.Aead.sealed c.args.aead.now) c.args.store_key.now c.args.bytes.now c.in-Err-At.field-0-0 (search rules)
