use Rattle.std.proofs.Common.{refl, sym, subst}
use Rattle.lab_session.specs.Answering.{ServeGives, request_of}
use Rattle.lab_session.specs.Session.{awaits_startup}
use Rattle.lab_session.specs.declared.said.Said.{Said}
use Rattle.lab_session.specs.declared.said.Said.TheVariants as said
use Rattle.lab_session.proofs.AnswerLaws.{declined_given, startup_given, refused_given, empty_given}
use Rattle.lab_session.proofs.Leased.{serves_unleased}
use Rattle.lab_session.proofs.answering.answer.Goals as goal

pub returns-in-Encrypts-clause-gives : goal.returns-in-Encrypts-clause-gives
returns-in-Encrypts-clause-gives g c key s text lends rests e =
    serves_unleased key _ s text c.args.said (said.Encrypts c.in-Encrypts.field-0) c.send.result c.args.random.now c.args.ring.now c.args.backend.now _ _ _ c.in-Encrypts.is refl
    (declined_given key s c.args.backend.now text c.args.said c.in-Encrypts.field-0 c.send.result c.args.random.now _ _ c.in-Encrypts.is rests e c.send.ensures.sent)

pub returns-in-Opens-clause-gives : goal.returns-in-Opens-clause-gives
returns-in-Opens-clause-gives g c key s text lends rests e =
    serves_unleased key _ s text c.args.said (said.Opens c.in-Opens.params) c.forward.result c.args.random.now c.args.ring.now c.args.backend.now _ _ _ c.in-Opens.is refl
    (startup_given key c.no_keys.result s c.args.backend.now text c.args.said c.in-Opens.params c.forward.result c.args.random.now c.forward.new.backend _ _ c.in-Opens.is c.requires.can rests e c.forward.ensures.sent)

pub returns-in-Asks-clause-gives : goal.returns-in-Asks-clause-gives
returns-in-Asks-clause-gives g c key s text lends rests e =
    subst (λ (w : Said). ServeGives key (awaits_startup c.args.backend.now) s (request_of text w) c.answer_statement.result c.answer_statement.new.random c.args.ring.now c.answer_statement.new.ring c.args.backend.now c.answer_statement.new.backend (g.K.Sink.held c.args.output.now) (g.K.Sink.held c.answer_statement.new.output))
    (sym c.in-Asks.is) (c.answer_statement.ensures.gives key s text lends rests e)

pub returns-in-Refused-clause-gives : goal.returns-in-Refused-clause-gives
returns-in-Refused-clause-gives g c key s text lends rests e =
    serves_unleased key _ s text c.args.said (said.Refused c.in-Refused.cause) c.refuse.result c.args.random.now c.args.ring.now c.args.backend.now _ _ _ c.in-Refused.is refl
    (refused_given key s c.args.backend.now text c.args.said c.in-Refused.cause c.refuse.result c.args.random.now _ _ c.in-Refused.is rests e c.refuse.ensures.sent)

pub returns-in-Empties-clause-gives : goal.returns-in-Empties-clause-gives
returns-in-Empties-clause-gives g c key s text lends rests e =
    serves_unleased key _ s text c.args.said said.Empties c.answer_nothing.result c.args.random.now c.args.ring.now c.args.backend.now _ _ _ c.in-Empties.is refl
    (empty_given key s c.args.backend.now text c.args.said c.answer_nothing.result c.args.random.now _ _ c.in-Empties.is rests e c.answer_nothing.ensures.sent)
