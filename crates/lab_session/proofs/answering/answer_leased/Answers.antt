use Rattle.lab_session.proofs.AnswerLaws.{plan_sends, plan_answered}
use Rattle.lab_session.specs.Session.{awaits_startup}
use Rattle.lab_session.proofs.answering.answer_leased.Goals as goal

pub forward-requires-clause-sendable : goal.forward-requires-clause-sendable
forward-requires-clause-sendable g c =
    plan_sends c.args.key.now c.args.random.now c.plan_for.new.random c.args.tree.now c.in-Ok.plan (awaits_startup c.args.backend.now) c.in-Ok.ensures c.requires.can

pub returns-in-Ok-clause-gives : goal.returns-in-Ok-clause-gives
returns-in-Ok-clause-gives g c s text rests e =
    plan_answered c.args.key.now c.args.view.now s c.args.backend.now text c.args.tree.now c.args.random.now c.plan_for.new.random c.in-Ok.plan c.deref.result.now c.forward.result c.forward.new.backend _ _
    c.in-Ok.ensures c.requires.view c.requires.can rests e c.deref.ensures.value c.forward.ensures.sent
