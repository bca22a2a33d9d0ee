use Rattle.std.proofs.Common.{◌≡◌, Bool, true, false, List, get_or, refl, sym, ap, subst, ◌∙◌, rules, arith}
use Rattle.rand_chacha.specs.ChaCha.{ChaCha}
use Rattle.acra_block.specs.Keys.{Key}
use Rattle.keystore.specs.Rings.{view_of}
use Rattle.keystore.specs.declared.keys.Lease.{Lease}
use Rattle.session_model.specs.Requests.{Request}
use Rattle.lab_session.specs.Leases.{needs_lease}
use Rattle.lab_session.specs.Session.{awaits_startup, Rests}
use Rattle.lab_session.specs.Answering.{AnswerGives}
use Rattle.lab_session.specs.declared.said.Said.TheVariants as said
use Rattle.lab_session.proofs.Leased.{lent_key, lease_released, serves_by, serves_unleased}
use Rattle.lab_session.proofs.answering.answer_statement.Goals as goal

pub returns-then-not-needs_lease-clause-gives : goal.returns-then-not-needs_lease-clause-gives
returns-then-not-needs_lease-clause-gives g c key s text lends rests e =
    let none : needs_lease c.args.tree.now ≡ false = search rules in
    let a = c.answer_bare.ensures.gives key (view_of c.args.ring.now c.args.who.now) s text lends.opens rests in
    serves_unleased key (awaits_startup c.args.backend.now) s text (said.Asks c.args.tree.now) (said.Asks c.args.tree.now) c.answer_bare.result c.args.random.now c.args.ring.now c.args.backend.now c.answer_bare.new.backend (g.K.Sink.held c.args.output.now) (g.K.Sink.held c.answer_bare.new.output) refl none
    (
    subst (λ (x : ChaCha). AnswerGives key (awaits_startup c.args.backend.now) s (Request.Asks text c.args.tree.now) c.answer_bare.result x c.answer_bare.new.backend (g.K.Sink.held c.args.output.now) (g.K.Sink.held c.answer_bare.new.output)) (sym e) a
    )

pub returns-in-Ok-clause-gives : goal.returns-in-Ok-clause-gives
returns-in-Ok-clause-gives g c key s text lends rests e =
    let ring = c.args.ring.now in
    let opening = awaits_startup c.args.backend.now in
    let leased : needs_lease c.args.tree.now ≡ true = search rules in
    let currents = c.as_slice.ensures ∙ ap (λ (l : Lease). l.currents) c.in-Ok.ensures.lease ∙ lent_key ring c.args.who.now key lends in
    let same : c.index-as_slice-0.result ≡ key = c.index-as_slice-0.is ∙ ap (λ (keys : List Key). get_or keys 0 c.index-as_slice-0.result) currents in
    let rests' = subst (λ (k : Key). Rests k c.args.backend.now s opening) (sym same) rests in
    let a = subst (λ (k : Key). AnswerGives k opening s (Request.Asks text c.args.tree.now) c.answer_leased-answered.result c.answer_leased-answered.new.random c.answer_leased-answered.new.backend (g.K.Sink.held c.args.output.now) (g.K.Sink.held c.answer_leased-answered.new.output)) same
    (c.answer_leased-answered.ensures.gives s text rests' e) in
    serves_by key opening s (Request.Asks text c.args.tree.now) c.answer_leased-answered.result c.answer_leased-answered.new.random ring c.release.new.self c.args.backend.now c.answer_leased-answered.new.backend (g.K.Sink.held c.args.output.now) (g.K.Sink.held c.answer_leased-answered.new.output) a
    (
    lease_released ring c.lend.new.ring c.release.new.self c.in-Ok.lease.ticket (Request.Asks text c.args.tree.now) lends.given leased c.in-Ok.ensures.ring (ap (λ (l : Lease). l.ticket) c.in-Ok.ensures.lease) c.release.ensures
    )
