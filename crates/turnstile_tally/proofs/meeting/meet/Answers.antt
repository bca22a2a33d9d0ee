use Rattle.std.proofs.Common.{rules, ◌≡◌, ◌<◌, ◌++◌, ◌∷◌, [], List, length, subst, sym, ap, ◌∙◌, arith, length-append}
use Rattle.acra_base.specs.Histories.{Leads}
use Rattle.turnstile.specs.Callers.{known_more, prefix_trans}
use Rattle.turnstile_tally.specs.Counting.{Counts, calls, other, count}
use Rattle.turnstile_tally.specs.declared.machine.Side.{Side}
use Rattle.turnstile_tally.specs.declared.machine.Tally.{Tally}
use Rattle.turnstile_tally.proofs.Counted.{shows, calls_own}
use Rattle.turnstile_tally.proofs.meeting.meet.Goals as goal

pub returns-then-count-gt0-clause-met : goal.returns-then-count-gt0-clause-met
returns-then-count-gt0-clause-met g c =
    let ends = c.act-seen.ensures.seat in
    let legal = c.act-seen.ensures.legal in
    let known : c.act-seen.new.seat.known ≡ (c.loop.seat.known ++ ends.between) ++ (c.args.side, c.act-seen.result) ∷ [] = ends.known in
    let leads = subst (λ (es : List (Side × Tally)). Leads Counts c.args.stile.now.opening es legal.0) known legal.1 in
    let leads' = subst (λ (t : Tally). Leads Counts t ((c.loop.seat.known ++ ends.between) ++ (c.args.side, c.act-seen.result) ∷ []) legal.0) c.requires.nothing leads in
    let some : 0 < count c.act-seen.result (other c.args.side) = search rules in
    λ _. subst (λ (es : List (Side × Tally)). 0 < calls (other c.args.side) es) (sym known) (shows legal.0 (other c.args.side) (c.loop.seat.known ++ ends.between) c.args.side c.act-seen.result leads' some)

pub returns-then-count-gt0-clause-called : goal.returns-then-count-gt0-clause-called
returns-then-count-gt0-clause-called g c =
    let ends = c.act-seen.ensures.seat in
    λ _. subst (λ (es : List (Side × Tally)). 0 < calls c.args.side es) (sym ends.known) (calls_own c.args.side (c.loop.seat.known ++ ends.between) c.act-seen.result)

pub loop-preserved : goal.loop-preserved
loop-preserved g c =
    let ends = c.act-seen.ensures.seat in (
      search rules,
      search rules,
      prefix_trans _ _ _ c.loop.invariant.2 (known_more _ _ _ _ ends),
      ap length ends.places ∙ (length-append c.loop.seat.places (length (c.loop.seat.known ++ ends.between) ∷ []) ∙ omega (arith, c.loop.invariant.3)),
      (λ _. subst (λ (es : List (Side × Tally)). 0 < calls c.args.side es) (sym ends.known) (calls_own c.args.side (c.loop.seat.known ++ ends.between) c.act-seen.result)),
    )
