use Rattle.std.proofs.Common.{arith, refl, ◌∙◌}
use Rattle.audit_chain.proofs.Pieces.{took_so_far, took_on, other_stop, reads_on, stopped, ends_here}
use Rattle.audit_chain.proofs.reading.read_log.Goals as goal

pub returns-then-taken-ge-READ_LIMIT-clause-took : goal.returns-then-taken-ge-READ_LIMIT-clause-took
returns-then-taken-ge-READ_LIMIT-clause-took g c = took_so_far c.args.key.now _ _ _ _ c.pieces.invariant.so_far c.pieces.invariant.within

pub returns-in-Err-clause-took : goal.returns-in-Err-clause-took
returns-in-Err-clause-took g c = took_on c.args.key.now _ _ _ _ _ _ c.pieces.invariant.so_far c.pieces.invariant.within refl c.in-Err.ensures.took

pub returns-in-Err-clause-stayed : goal.returns-in-Err-clause-stayed
returns-in-Err-clause-stayed g c not = c.in-Err.ensures.stayed (other_stop c.in-Err.stop _ not) ∙ c.pieces.invariant.stayed

pub returns-in-Ok-eq0-clause-took : goal.returns-in-Ok-eq0-clause-took
returns-in-Ok-eq0-clause-took g c = took_on c.args.key.now _ _ _ _ _ _ c.pieces.invariant.so_far c.pieces.invariant.within refl c.in-Ok-eq0.ensures.took

pub returns-in-Ok-eq0-clause-stayed : goal.returns-in-Ok-eq0-clause-stayed
returns-in-Ok-eq0-clause-stayed g c not = c.in-Ok-eq0.ensures.stayed (λ e. cc) ∙ c.pieces.invariant.stayed

pub returns-in-Err-clause-ends : goal.returns-in-Err-clause-ends
returns-in-Err-clause-ends g c =
    let s = c.pieces.invariant.so_far in
    stopped c.args.key.now _ _ _ _ _ _ s c.pieces.invariant.within refl c.in-Err.stop (c.in-Err.ensures.reads c.args.key.now s.bytes s.at)

pub returns-in-Ok-eq0-clause-ends : goal.returns-in-Ok-eq0-clause-ends
returns-in-Ok-eq0-clause-ends g c =
    let s = c.pieces.invariant.so_far in
    let p = c.in-Ok-eq0.ensures.reads c.args.key.now s.bytes s.at in
    let t = reads_on c.args.key.now _ _ _ _ _ _ _ _ s p in
    ends_here c.args.key.now _ _ _ _ t (omega (arith, c.if-taken-ge-READ_LIMIT.false, c.in-Ok-eq0.field-0-test)) (p.none c.in-Ok-eq0.field-0-test) c.end.result (c.end.ensures.ends c.args.key.now t.bytes t.at)

pub overflow_add-taken : goal.overflow_add-taken
overflow_add-taken g c =
    let s = c.pieces.invariant.so_far in
    let p = c.in-Ok.ensures.reads c.args.key.now s.bytes s.at in
    omega (arith, p.within, c.pieces.invariant.within)

pub pieces-preserved : goal.pieces-preserved
pieces-preserved g c =
    let s = c.pieces.invariant.so_far in
    let p = c.in-Ok.ensures.reads c.args.key.now s.bytes s.at in
    record {
      so_far = reads_on c.args.key.now _ _ _ _ _ _ _ _ s p;
      within = omega (arith, p.within, c.pieces.invariant.within);
      stayed = c.in-Ok.ensures.stayed (λ e. cc) ∙ c.pieces.invariant.stayed;
      later = omega (arith, c.pieces.invariant.later, c.in-Ok.ensures.later);
    }
