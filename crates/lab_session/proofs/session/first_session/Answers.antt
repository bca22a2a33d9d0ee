use Rattle.std.proofs.Common.{◌≡◌, ℕ, Bool, true, List, [], ◌∷◌, ◌++◌, arith, sym, subst, ◌∙◌, inl, inr}
use Rattle.acra_base.specs.declared.no_memory.NoMemory.{NoMemory}
use Rattle.acra_block.specs.Keys.{Key}
use Rattle.keystore.specs.Rings.{current_of}
use Rattle.session_model.specs.Requests.{Request}
use Rattle.lab_session.specs.Runs.{started, state_after_all}
use Rattle.lab_session.specs.Session.{Rests, Ends, may_begin}
use Rattle.lab_session.specs.Answering.{request_of, CanAnswer}
use Rattle.lab_session.specs.declared.said.Next.TheVariants as next
use Rattle.lab_session.specs.declared.status.Status.{Status}
use Rattle.lab_session.specs.declared.status.Status.TheVariants as ends
use Rattle.lab_session.proofs.Saying.{can_said}
use Rattle.lab_session.proofs.Leased.{some_of, after_none, after_same, after_one, after_leaving, lends_here}
use Rattle.lab_session.proofs.Steps.{next_is, piece_of, may_stop, not_read, none_left, some_left, nothing_read, ends_stopped, starts, reads_on, answers_on, ends_here, lost, bad_here, cut_here, spent_here, breaks_off, unbegun, leaves}
use Rattle.lab_session.proofs.session.first_session.Goals as goal

pub session-init : goal.session-init
session-init g c =
    let k = some_of (current_of c.args.ring.now c.args.who.now) c.requires.client in
    record {
      so_far = (
        k.0,
        [],
        k.1,
        starts k.0 c.args.random.now (g.S.Source.left c.args.input.now) (g.K.Sink.held c.args.output.now) c.args.backend.now c.new-framer.result c.requires.tables c.requires.new c.new-framer.ensures,
        sym (after_none c.args.ring.now),
      );
      within = omega arith;
      reads = omega arith;
      writes = omega arith;
    }

pub returns-in-Err-clause-ran : goal.returns-in-Err-clause-ran
returns-in-Err-clause-ran g c =
    let s = c.session.invariant.so_far in
    (s.0, s.1, [], c.session.framer.left, s.2, ends_here _ _ _ _ _ _ _ _ _ _ s.1 s.3 ends.NoMemory tt, after_same c.args.ring.now _ s.1 s.4)

pub returns-in-Ok-Bad-clause-ran : goal.returns-in-Ok-Bad-clause-ran
returns-in-Ok-Bad-clause-ran g c =
    let s = c.session.invariant.so_far in
    let n = next_is NoMemory _ _ c.in-Ok-Bad.field-0 (next.Bad c.in-Ok-Bad.offset c.in-Ok-Bad.kind) c.in-Ok-Bad.field-0-is c.in-Ok-Bad.ensures in
    (s.0, s.1, [], c.session.framer.left, s.2, ends_here _ _ _ _ _ _ _ _ _ _ s.1 s.3 _ (bad_here _ _ _ _ _ _ _ _ _ _ s.1 s.3 c.in-Ok-Bad.offset c.in-Ok-Bad.kind n.0 n.1), after_same c.args.ring.now _ s.1 s.4)

pub returns-in-Ok-Leaves-clause-ran : goal.returns-in-Ok-Leaves-clause-ran
returns-in-Ok-Leaves-clause-ran g c =
    let s = c.session.invariant.so_far in
    let k = next_is NoMemory _ _ c.in-Ok-Leaves.field-0 next.Leaves c.in-Ok-Leaves.field-0-is c.in-Ok-Leaves.ensures in
    (s.0, s.1 ++ Request.Leaves ∷ [], [], k.rest, s.2, leaves _ _ _ _ _ _ _ _ _ _ s.1 s.3 _ k, after_leaving c.args.ring.now _ s.1 s.4)

pub answer-requires-clause-can : goal.answer-requires-clause-can
answer-requires-clause-can g c =
    let s = c.session.invariant.so_far in
    let n = next_is NoMemory _ _ c.in-Ok-Said.field-0 (next.Said c.in-Ok-Said.said) c.in-Ok-Said.field-0-is c.in-Ok-Said.ensures in
    subst (λ (b : Bool). CanAnswer b c.in-Ok-Said.said) (s.3.opening ∙ sym s.3.rests.opening) (can_said c.session.framer.opening n.0 c.in-Ok-Said.said n.1.placed)

pub answer-requires-clause-lends : goal.answer-requires-clause-lends
answer-requires-clause-lends g c =
    let s = c.session.invariant.so_far in
    let n = next_is NoMemory _ _ c.in-Ok-Said.field-0 (next.Said c.in-Ok-Said.said) c.in-Ok-Said.field-0-is c.in-Ok-Said.ensures in
    (s.0, lends_here c.args.ring.now c.session.ring c.args.who.now s.0 _ _ _ _ _ _ _ _ _ s.1 c.requires.kept c.requires.ids c.requires.tickets s.2 s.3 c.session.invariant.within s.4 _ _ n.1)

pub session-preserved-in-Ok : goal.session-preserved-in-Ok
session-preserved-in-Ok g c =
    let s = c.session.invariant.so_far in
    let n = next_is NoMemory _ _ c.in-Ok-Said.field-0 (next.Said c.in-Ok-Said.said) c.in-Ok-Said.field-0-is c.in-Ok-Said.ensures in
    let keys : Key = s.0 in
    let r = request_of n.0 c.in-Ok-Said.said in
    let lends = lends_here c.args.ring.now c.session.ring c.args.who.now keys _ _ _ _ _ _ _ _ _ s.1 c.requires.kept c.requires.ids c.requires.tickets s.2 s.3 c.session.invariant.within s.4 _ _ n.1 in
    let rests = subst (λ (b : Bool). Rests keys c.session.backend (state_after_all keys (started c.args.random.now) s.1) b) (sym s.3.rests.opening) s.3.rests in
    let a = c.in-Ok.ensures.gives keys (state_after_all keys (started c.args.random.now) s.1) n.0 lends rests s.3.drawn in
    record {
      so_far = (
        keys,
        s.1 ++ r ∷ [],
        s.2,
        answers_on _ _ _ _ _ _ _ _ _ _ s.1 s.3 n.0 c.in-Ok-Said.said _ _ _ _ c.session.invariant.within n.1 a.0,
        after_one c.args.ring.now c.session.ring c.answer.new.ring s.1 r s.4 a.1,
      );
      within = c.session.invariant.within;
      reads = c.session.invariant.reads;
      writes = omega (arith, c.session.invariant.writes, c.in-Ok.ensures.later);
    }

pub returns-in-Err-answer-clause-ran : goal.returns-in-Err-answer-clause-ran
returns-in-Err-answer-clause-ran g c =
    let s = c.session.invariant.so_far in
    let n = next_is NoMemory _ _ c.in-Ok-Said.field-0 (next.Said c.in-Ok-Said.said) c.in-Ok-Said.field-0-is c.in-Ok-Said.ensures in
    let keys : Key = s.0 in
    let r = request_of n.0 c.in-Ok-Said.said in
    let lends = lends_here c.args.ring.now c.session.ring c.args.who.now keys _ _ _ _ _ _ _ _ _ s.1 c.requires.kept c.requires.ids c.requires.tickets s.2 s.3 c.session.invariant.within s.4 _ _ n.1 in
    let rests = subst (λ (b : Bool). Rests keys c.session.backend (state_after_all keys (started c.args.random.now) s.1) b) (sym s.3.rests.opening) s.3.rests in
    let b = c.in-Err-answer.ensures.gives keys (state_after_all keys (started c.args.random.now) s.1) n.0 lends rests s.3.drawn in
    let why = λ (rest : List ℕ). subst (λ (x : Status). Ends x (g.S.Source.left c.session.input) s.1 rest) (sym c.stopped.ensures) (ends_stopped c.in-Err-answer.stop _ _ _) in
    let may = subst (λ (x : Status). may_begin x ≡ true) (sym c.stopped.ensures) (may_stop c.in-Err-answer.stop (not_read c.in-Err-answer.stop c.in-Err-answer.ensures.no_read)) in
    elim b [
      | inl u ↦ (
        keys,
        s.1,
        [],
        c.session.framer.left,
        s.2,
        unbegun _ _ _ _ _ _ _ _ _ _ s.1 s.3 _ _ c.stopped.result u.lab_is u.sent (why c.session.framer.left),
        after_same c.args.ring.now _ s.1 (u.ring_is ∙ s.4),
      )
      | inr x ↦ (
        keys,
        s.1,
        r ∷ [],
        n.1.rest,
        s.2,
        breaks_off _ _ _ _ _ _ _ _ _ _ s.1 s.3 r _ _ _ c.stopped.result n.1 x.0 may (why n.1.rest),
        after_one c.args.ring.now c.session.ring c.answer.new.ring s.1 r s.4 x.1,
      )
    ]

pub returns-then-taken-ge-READ_LIMIT-clause-ran : goal.returns-then-taken-ge-READ_LIMIT-clause-ran
returns-then-taken-ge-READ_LIMIT-clause-ran g c =
    let s = c.session.invariant.so_far in
    (s.0, s.1, [], c.session.framer.left, s.2, ends_here _ _ _ _ _ _ _ _ _ _ s.1 s.3 ends.Spent (spent_here _ _ _ _ _ _ _ _ _ _ s.1 s.3 c.if-taken-ge-READ_LIMIT.true c.session.invariant.within), after_same c.args.ring.now _ s.1 s.4)

pub returns-in-Err-read_piece-clause-ran : goal.returns-in-Err-read_piece-clause-ran
returns-in-Err-read_piece-clause-ran g c =
    let s = c.session.invariant.so_far in (
      s.0,
      s.1,
      [],
      _,
      s.2,
      lost _ _ _ _ _ _ _ _ _ _ s.1 s.3 _ c.stopped-in-Err-read_piece.result c.in-Err-read_piece.ensures.err
          (subst (λ (x : Status). Ends x (g.S.Source.left c.read_piece.new.input) s.1 (c.session.framer.left ++ c.in-Err-read_piece.ensures.err.0)) (sym c.stopped-in-Err-read_piece.ensures) (ends_stopped c.in-Err-read_piece.stop _ _ _)),
      after_same c.args.ring.now _ s.1 s.4,
    )

pub returns-then-is_empty-clause-ran : goal.returns-then-is_empty-clause-ran
returns-then-is_empty-clause-ran g c =
    let s = c.session.invariant.so_far in
    let n = next_is NoMemory _ _ c.in-Ok-Waiting.field-0 next.Waiting c.in-Ok-Waiting.field-0-is c.in-Ok-Waiting.ensures in
    let p = piece_of _ _ _ _ _ _ _ n.1 c.in-Ok-eq0.ensures.ok in
    let now = reads_on _ _ _ _ _ _ _ _ _ _ s.1 s.3 _ _ _ _ p in
    (s.0, s.1, [], _, s.2, ends_here _ _ _ _ _ _ _ _ _ _ s.1 now ends.Done (inl (none_left _ (c.if-is_empty.ensures), p.none c.in-Ok-eq0.field-0-test)), after_same c.args.ring.now _ s.1 s.4)

pub returns-in-Ok-eq0-clause-ran : goal.returns-in-Ok-eq0-clause-ran
returns-in-Ok-eq0-clause-ran g c =
    let s = c.session.invariant.so_far in
    let n = next_is NoMemory _ _ c.in-Ok-Waiting.field-0 next.Waiting c.in-Ok-Waiting.field-0-is c.in-Ok-Waiting.ensures in
    let p = piece_of _ _ _ _ _ _ _ n.1 c.in-Ok-eq0.ensures.ok in
    let now = reads_on _ _ _ _ _ _ _ _ _ _ s.1 s.3 _ _ _ _ p in
    let why = cut_here _ _ _ _ _ _ _ _ _ _ s.1 now c.session.taken (omega (arith, c.in-Ok-eq0.field-0-test)) (some_left _ (c.if-is_empty.ensures)) (p.none c.in-Ok-eq0.field-0-test) (nothing_read _ _ _ _ _ _ c.in-Ok-eq0.field-0-test p n.0) in
    (s.0, s.1, [], _, s.2, ends_here _ _ _ _ _ _ _ _ _ _ s.1 now _ why, after_same c.args.ring.now _ s.1 s.4)

pub session-preserved : goal.session-preserved
session-preserved g c =
    let s = c.session.invariant.so_far in
    let n = next_is NoMemory _ _ c.in-Ok-Waiting.field-0 next.Waiting c.in-Ok-Waiting.field-0-is c.in-Ok-Waiting.ensures in
    let p = piece_of _ _ _ _ _ _ _ n.1 c.in-Ok-read_piece.ensures.ok in
    record {
      so_far = (s.0, s.1, s.2, reads_on _ _ _ _ _ _ _ _ _ _ s.1 s.3 _ _ _ _ p, s.4);
      within = omega (arith, p.within, c.session.invariant.within);
      reads = omega (arith, c.session.invariant.reads, c.in-Ok-read_piece.ensures.later);
      writes = c.session.invariant.writes;
    }
