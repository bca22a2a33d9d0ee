use Rattle.std.proofs.Common.{arith}
use Rattle.session_model.specs.Shown.{shown_message}
use Rattle.lab_session.specs.Cells.{opened_by}
use Rattle.lab_session.proofs.Relayed.{stopped, next_shown, one_more, breaks, smaller}
use Rattle.lab_session.proofs.relay.relay.Goals as goal

pub returns-in-Err-clause-sent : goal.returns-in-Err-clause-sent
returns-in-Err-clause-sent g c messages h =
    stopped (shown_message (opened_by c.args.view.now) c.args.protected.now) _ messages _ _ (c.messages.invariant.shown messages h)

pub messages-smaller : goal.messages-smaller
messages-smaller g c =
    let show = shown_message (opened_by c.args.view.now) c.args.protected.now in
    let r = c.requires in
    let n = next_shown show _ _ r.0 _ _ c.in-Ok-Some.field-0 c.in-Ok-Some.message (c.messages.invariant.shown r.0 r.1) c.in-Ok-Some.field-0-is c.in-Ok-Some.ensures in
    smaller show _ _ r.0 _ _ c.in-Ok-Some.message n

pub messages-preserved : goal.messages-preserved
messages-preserved g c = record {
  shown = λ messages h.
      let show = shown_message (opened_by c.args.view.now) c.args.protected.now in
      let n = next_shown show _ _ messages _ _ c.in-Ok-Some.field-0 c.in-Ok-Some.message (c.messages.invariant.shown messages h) c.in-Ok-Some.field-0-is c.in-Ok-Some.ensures in
      one_more show _ _ messages _ _ _ c.in-Ok-Some.message n c.in-Ok.ensures.sent;
  later = omega (arith, c.messages.invariant.later, c.in-Ok.ensures.later);
}

pub returns-in-Err-send_shown-clause-sent : goal.returns-in-Err-send_shown-clause-sent
returns-in-Err-send_shown-clause-sent g c messages h =
    let show = shown_message (opened_by c.args.view.now) c.args.protected.now in
    let n = next_shown show _ _ messages _ _ c.in-Ok-Some.field-0 c.in-Ok-Some.message (c.messages.invariant.shown messages h) c.in-Ok-Some.field-0-is c.in-Ok-Some.ensures in
    breaks show _ _ messages _ _ _ c.in-Ok-Some.message n c.in-Err-send_shown.ensures.sent
