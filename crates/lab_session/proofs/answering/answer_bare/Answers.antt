use Rattle.std.proofs.Common.{sym, subst}
use Rattle.pg_wire.specs.declared.front.Front.{Front}
use Rattle.lab_session.specs.Cells.{opened_by}
use Rattle.lab_session.specs.Relaying.{CanSend}
use Rattle.lab_session.proofs.Bare.{is_bare, can_send_bare, bare_answered}
use Rattle.lab_session.specs.Session.{awaits_startup}
use Rattle.lab_session.proofs.answering.answer_bare.Goals as goal

pub forward-requires-clause-sendable : goal.forward-requires-clause-sendable
forward-requires-clause-sendable g c =
    let opening = awaits_startup c.args.backend.now in
    subst (λ (q : Front). CanSend opening q) (sym c.in-Ok.ensures) (can_send_bare c.args.tree.now opening c.requires.can.0 c.requires.can.1.served (is_bare c.args.tree.now c.requires.can.1.served c.requires.bare))

pub returns-in-Ok-clause-gives : goal.returns-in-Ok-clause-gives
returns-in-Ok-clause-gives g c key view s text has rests =
    bare_answered key view (opened_by c.no_keys.result) s c.args.backend.now text c.args.tree.now c.in-Ok.request c.forward.result c.forward.new.backend _ _ c.requires.bare has c.requires.can rests c.in-Ok.ensures c.forward.ensures.sent
