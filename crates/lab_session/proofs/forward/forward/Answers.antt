use Rattle.std.proofs.Common.{◌∙◌}
use Rattle.session_model.specs.Shown.{shown_message}
use Rattle.lab_session.specs.Cells.{opened_by}
use Rattle.lab_session.proofs.Forwarded.{is_fed, never_idles, makes_reply, forwards, fails, when_true, when_false}
use Rattle.acra_base.specs.declared.no_memory.NoMemory.{NoMemory}
use Rattle.lab_session.proofs.forward.forward.Goals as goal

pub returns-in-Err-clause-sent : goal.returns-in-Err-clause-sent
returns-in-Err-clause-sent g c =
    let f = is_fed c.args.backend.now c.args.request.now c.feed.new.self c.new-bytes.result.items c.write_front.new.out.items c.deref.result.now c.requires.idle c.requires.sendable c.new-bytes.ensures.items c.in_ok-write_front.ensures.ok c.deref.ensures.value c.in_ok-feed.ensures.ok c.feed.ensures.tables in
    fails _ _ _ f (shown_message (opened_by c.args.view.now) c.args.protected.now) _ _ _ _ c.in-Err.ensures.gives

pub relay-requires : goal.relay-requires
relay-requires g c =
    let f = is_fed c.args.backend.now c.args.request.now c.feed.new.self c.new-bytes.result.items c.write_front.new.out.items c.deref.result.now c.requires.idle c.requires.sendable c.new-bytes.ensures.items c.in_ok-write_front.ensures.ok c.deref.ensures.value c.in_ok-feed.ensures.ok c.feed.ensures.tables in
    let m = makes_reply _ _ _ f _ _ c.execute.new.out.items c.new-reply.ensures.items (when_true NoMemory _ _ _ _ c.in-Ok-true.field-0 c.in-Ok-true.field-0-test c.in-Ok-true.ensures.gives) in
    (m.messages, (c.deref-in-Ok-true.ensures.value ∙ m.is.0, m.is.1))

pub returns-in-Ok-true-clause-sent : goal.returns-in-Ok-true-clause-sent
returns-in-Ok-true-clause-sent g c =
    let f = is_fed c.args.backend.now c.args.request.now c.feed.new.self c.new-bytes.result.items c.write_front.new.out.items c.deref.result.now c.requires.idle c.requires.sendable c.new-bytes.ensures.items c.in_ok-write_front.ensures.ok c.deref.ensures.value c.in_ok-feed.ensures.ok c.feed.ensures.tables in
    let m = makes_reply _ _ _ f _ _ c.execute.new.out.items c.new-reply.ensures.items (when_true NoMemory _ _ _ _ c.in-Ok-true.field-0 c.in-Ok-true.field-0-test c.in-Ok-true.ensures.gives) in
    forwards _ _ _ f (shown_message (opened_by c.args.view.now) c.args.protected.now) _ _ _ _ _ m (λ messages is. c.relay.ensures.sent messages (c.deref-in-Ok-true.ensures.value ∙ is.0, is.1))

pub unreachable-requires : goal.unreachable-requires
unreachable-requires g c =
    let f = is_fed c.args.backend.now c.args.request.now c.feed.new.self c.new-bytes.result.items c.write_front.new.out.items c.deref.result.now c.requires.idle c.requires.sendable c.new-bytes.ensures.items c.in_ok-write_front.ensures.ok c.deref.ensures.value c.in_ok-feed.ensures.ok c.feed.ensures.tables in
    never_idles _ _ _ f _ _ _ (when_false NoMemory _ _ _ _ c.in-Ok-false.field-0 c.in-Ok-false.field-0-test c.in-Ok-false.ensures.gives)
