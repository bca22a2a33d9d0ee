use Rattle.lab_session.proofs.DrawnRing.{drawn_key}
use Rattle.lab_core.proofs.Told.{headline_of, due_of, named, unmade}
use Rattle.lab_core.proofs.top.lab_top.Goals as goal

pub returns-in-None-clause-headline : goal.returns-in-None-clause-headline
returns-in-None-clause-headline g c client seed words = absurd (c.in-None.ensures client seed words)

pub returns-in-Err-clause-headline : goal.returns-in-Err-clause-headline
returns-in-Err-clause-headline g c client seed words = unmade client seed (g.S.Source.left c.args.input.now) (g.K.Sink.held c.args.output.now)

pub returns-in-Err-notes_tables-clause-headline : goal.returns-in-Err-notes_tables-clause-headline
returns-in-Err-notes_tables-clause-headline g c client seed words = unmade client seed (g.S.Source.left c.args.input.now) (g.K.Sink.held c.args.output.now)

pub returns-clause-headline : goal.returns-clause-headline
returns-clause-headline g c client seed words =
    let r = c.first_session.ensures.ran in
    let drawn = drawn_key c.in-Ok.ring c.in-Ok.random _ _ c.in-Ok.ensures r.0 r.4 in
    headline_of client seed _ _ _ _ _ _ r.1 r.2 r.3 (named _ client seed _ _ _ _ _ _ _ _ _ _ r.1 r.2 r.3 c.in-Some.ensures words drawn r.5)

pub returns-clause-exact : goal.returns-clause-exact
returns-clause-exact g c client seed words =
    let r = c.first_session.ensures.ran in
    let drawn = drawn_key c.in-Ok.ring c.in-Ok.random _ _ c.in-Ok.ensures r.0 r.4 in
    due_of client seed _ _ _ _ _ _ r.1 r.2 r.3 (named _ client seed _ _ _ _ _ _ _ _ _ _ r.1 r.2 r.3 c.in-Some.ensures words drawn r.5)
