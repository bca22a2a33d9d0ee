use Rattle.std.proofs.Common.{◌≡◌, false, refl, sym, ap, subst, ◌∙◌}
use Rattle.keys_core.specs.declared.words.Ask.{Ask}
use Rattle.keys_core.specs.Work.{run_of}
use Rattle.keys_core.specs.Runs.{IsRun}
use Rattle.keys_core.specs.Again.{changes}
use Rattle.keys_core.proofs.Runs.{same_told, stop_run, finish_run, stop_cause, finish_cause, finish_no_usage, stop_no_usage, stop_no_done, keeps_ring, some_none}
use Rattle.keys_core.specs.Draws.{draws_of, DrawnAs}
use Rattle.keys_core.proofs.Draws.{finish_drew}
use Rattle.keys_core.proofs.Order.{finish_order}
use Rattle.keys_core.proofs.Untouched.{stop_untouched, finish_untouched, unchanged_file, same_count, stop_counts, finish_counts}
use Rattle.keys_core.proofs.top.keys_top.Goals as goal

pub returns-in-None-clause-usage : goal.returns-in-None-clause-usage
returns-in-None-clause-usage g c = (λ u. sym c.in-None.ensures, λ n. refl)

pub returns-in-None-clause-exact : goal.returns-in-None-clause-exact
returns-in-None-clause-exact g c ask e m r s t k k' h h' em em' er er' es et ek ek' eh eh' = some_none _ ask (sym e) (sym c.in-None.ensures)

pub returns-in-Ok-clause-usage : goal.returns-in-Ok-clause-usage
returns-in-Ok-clause-usage g c = (λ u. absurd (finish_no_usage _ _ _ _ c.finish.result c.finish.ensures.cause u), λ n. some_none _ c.in-Some.ask c.in-Some.ensures n)

pub returns-in-Ok-clause-exact : goal.returns-in-Ok-clause-exact
returns-in-Ok-clause-exact g c ask e m r s t k k' h h' em em' er er' es et ek ek' eh eh' =
    let same : c.in-Some.ask ≡ ask = sym (same_told _ c.in-Some.ask ask (sym c.in-Some.ensures) e) in
    subst (λ (a : Ask). IsRun c.finish.result (run_of a m r s) s t k k' h h') same
    (finish_run _ _ _ _ c.finish.result c.in-Ok.work (run_of c.in-Some.ask m r s) s t k k' h h' c.finish.ensures.cause (c.in-Ok.ensures.run m r s t em em' er er' es et) (c.finish.ensures.done k k' h h' ek ek' eh eh'))

pub returns-in-Ok-clause-cause : goal.returns-in-Ok-clause-cause
returns-in-Ok-clause-cause g c = finish_cause _ _ _ _ _ _ _ _ _ _ c.finish.result c.finish.ensures.cause

pub returns-in-Err-clause-usage : goal.returns-in-Err-clause-usage
returns-in-Err-clause-usage g c = (λ u. absurd (stop_no_usage _ _ _ _ _ _ c.in-Err.status c.in-Err.ensures.cause u), λ n. some_none _ c.in-Some.ask c.in-Some.ensures n)

pub returns-in-Err-clause-exact : goal.returns-in-Err-clause-exact
returns-in-Err-clause-exact g c ask e m r s t k k' h h' em em' er er' es et ek ek' eh eh' =
    let same : c.in-Some.ask ≡ ask = sym (same_told _ c.in-Some.ask ask (sym c.in-Some.ensures) e) in
    subst (λ (a : Ask). IsRun c.in-Err.status (run_of a m r s) s t k k' h h') same
    (stop_run _ _ _ _ _ _ c.in-Err.status (run_of c.in-Some.ask m r s) s t k k' h h' c.in-Err.ensures.cause (c.in-Err.ensures.run m r s t em em' er er' es et) (same_told _ k k' ek ek') (same_told _ h h' eh eh'))

pub returns-in-Err-clause-cause : goal.returns-in-Err-clause-cause
returns-in-Err-clause-cause g c = stop_cause _ _ _ _ _ _ _ _ _ _ c.in-Err.status c.in-Err.ensures.cause

pub returns-in-None-clause-reads_back : goal.returns-in-None-clause-reads_back
returns-in-None-clause-reads_back g c ask m k k' e changed done em em' ek ek' = some_none _ ask (sym e) (sym c.in-None.ensures)

pub returns-in-Ok-clause-reads_back : goal.returns-in-Ok-clause-reads_back
returns-in-Ok-clause-reads_back g c ask m k k' e changed done em em' ek ek' =
    let same : c.in-Some.ask ≡ ask = sym (same_told _ c.in-Some.ask ask (sym c.in-Some.ensures) e) in
    let work = c.in-Ok.ensures.kept m em em' (ap changes same ∙ changed) in
    let kept = c.finish.ensures.kept done k k' ek ek' in
    keeps_ring m work.0 c.in-Ok.work.file k k' work.1.0 (work.1.1 kept.0) kept.1

pub returns-in-Err-clause-reads_back : goal.returns-in-Err-clause-reads_back
returns-in-Err-clause-reads_back g c ask m k k' e changed done em em' ek ek' = absurd (stop_no_done _ _ _ _ _ _ c.in-Err.status c.in-Err.ensures.cause done)

-- ---- what is untouched

pub returns-in-None-clause-untouched : goal.returns-in-None-clause-untouched
returns-in-None-clause-untouched g c = (refl, (refl, (refl, (refl, refl))))

pub returns-in-Ok-clause-untouched : goal.returns-in-Ok-clause-untouched
returns-in-Ok-clause-untouched g c =
    finish_untouched _ _ _ _ _ _ _ _ _ _ _ _ _ _ c.in-Some.ask c.in-Ok.work c.finish.result c.finish.ensures.cause c.in-Ok.ensures.file c.finish.ensures.untouched c.finish.ensures.still

pub returns-in-Err-clause-untouched : goal.returns-in-Err-clause-untouched
returns-in-Err-clause-untouched g c = stop_untouched _ _ _ _ _ _ _ _ _ _ _ _ _ _ c.in-Err.status c.in-Err.ensures.cause c.in-Err.ensures.untouched

pub returns-in-None-clause-unchanged : goal.returns-in-None-clause-unchanged
returns-in-None-clause-unchanged g c ask e same = (refl, refl)

pub returns-in-Ok-clause-unchanged : goal.returns-in-Ok-clause-unchanged
returns-in-Ok-clause-unchanged g c ask e same =
    let as_asked : changes c.in-Some.ask ≡ false = ap changes (sym (same_told _ c.in-Some.ask ask (sym c.in-Some.ensures) e)) ∙ same in
    (c.finish.ensures.still (unchanged_file c.in-Some.ask c.in-Ok.work c.in-Ok.ensures.file as_asked), c.in-Ok.ensures.still as_asked)

pub returns-in-Err-clause-unchanged : goal.returns-in-Err-clause-unchanged
returns-in-Err-clause-unchanged g c ask e same =
    let as_asked : changes c.in-Some.ask ≡ false = ap changes (sym (same_told _ c.in-Some.ask ask (sym c.in-Some.ensures) e)) ∙ same in
    (refl, c.in-Err.ensures.still as_asked)

-- ---- the order

pub returns-in-Ok-clause-order : goal.returns-in-Ok-clause-order
returns-in-Ok-clause-order g c m em em' = finish_order _ _ _ _ _ c.finish.result c.finish.ensures.cause (c.in-Ok.ensures.order m em em')

pub returns-in-Err-clause-order : goal.returns-in-Err-clause-order
returns-in-Err-clause-order g c m em em' = c.in-Err.ensures.order m em em'

-- ---- what is drawn

pub returns-in-None-clause-drawn : goal.returns-in-None-clause-drawn
returns-in-None-clause-drawn g c ask m r e em em' er er' = some_none _ ask (sym e) (sym c.in-None.ensures)

pub returns-in-Ok-clause-drawn : goal.returns-in-Ok-clause-drawn
returns-in-Ok-clause-drawn g c ask m r e em em' er er' =
    let same : c.in-Some.ask ≡ ask = sym (same_told _ c.in-Some.ask ask (sym c.in-Some.ensures) e) in
    subst (λ (a : Ask). DrawnAs c.finish.result (draws_of a m r) (g.R.Random.coming c.args.random.now) (g.R.Random.coming c.prepare.new.random)) same
    (finish_drew _ _ _ _ _ _ _ c.finish.result c.finish.ensures.cause (c.in-Ok.ensures.drawn m r em em' er er'))

pub returns-in-Err-clause-drawn : goal.returns-in-Err-clause-drawn
returns-in-Err-clause-drawn g c ask m r e em em' er er' =
    let same : c.in-Some.ask ≡ ask = sym (same_told _ c.in-Some.ask ask (sym c.in-Some.ensures) e) in
    subst (λ (a : Ask). DrawnAs c.in-Err.status (draws_of a m r) (g.R.Random.coming c.args.random.now) (g.R.Random.coming c.prepare.new.random)) same (c.in-Err.ensures.drawn m r em em' er er')

-- ---- counts

pub returns-in-None-clause-later : goal.returns-in-None-clause-later
returns-in-None-clause-later g c = (same_count _, (same_count _, (same_count _, (same_count _, same_count _))))

pub returns-in-Ok-clause-later : goal.returns-in-Ok-clause-later
returns-in-Ok-clause-later g c =
    let before = c.prepare.ensures.later in
    (before.0, (before.1.0, (c.finish.ensures.later.0, (before.1.1, c.finish.ensures.later.1))))

pub returns-in-Err-clause-later : goal.returns-in-Err-clause-later
returns-in-Err-clause-later g c =
    let before = c.prepare.ensures.later in
    (before.0, (before.1.0, (same_count _, (before.1.1, same_count _))))

pub returns-in-None-clause-stayed : goal.returns-in-None-clause-stayed
returns-in-None-clause-stayed g c = (refl, (refl, refl))

pub returns-in-Ok-clause-stayed : goal.returns-in-Ok-clause-stayed
returns-in-Ok-clause-stayed g c = finish_counts _ _ _ _ _ _ c.finish.result c.finish.ensures.cause c.in-Ok.ensures.stayed c.finish.ensures.stayed

pub returns-in-Err-clause-stayed : goal.returns-in-Err-clause-stayed
returns-in-Err-clause-stayed g c = stop_counts _ _ _ _ _ _ _ _ c.in-Err.status c.in-Err.ensures.cause c.in-Err.ensures.stayed

pub returns-in-None-clause-master_stayed : goal.returns-in-None-clause-master_stayed
returns-in-None-clause-master_stayed g c not = refl

pub returns-in-None-clause-ring_stayed : goal.returns-in-None-clause-ring_stayed
returns-in-None-clause-ring_stayed g c not = refl

pub returns-in-Ok-clause-master_stayed : goal.returns-in-Ok-clause-master_stayed
returns-in-Ok-clause-master_stayed g c not = c.in-Ok.ensures.master_stayed

pub returns-in-Ok-clause-ring_stayed : goal.returns-in-Ok-clause-ring_stayed
returns-in-Ok-clause-ring_stayed g c not = c.in-Ok.ensures.ring_stayed

pub returns-in-Err-clause-master_stayed : goal.returns-in-Err-clause-master_stayed
returns-in-Err-clause-master_stayed g c not = c.in-Err.ensures.master_stayed not

pub returns-in-Err-clause-ring_stayed : goal.returns-in-Err-clause-ring_stayed
returns-in-Err-clause-ring_stayed g c not = c.in-Err.ensures.ring_stayed not
