use Rattle.std.proofs.Common.{rules, List, subst}
use Rattle.acra_base.specs.Histories.{Leads}
use Rattle.turnstile_tally.specs.Counting.{Counts}
use Rattle.turnstile_tally.specs.declared.machine.Side.{Side}
use Rattle.turnstile_tally.specs.declared.machine.Tally.{Tally}
use Rattle.turnstile_tally.specs.declared.machine.Side.TheVariants.{Left, Right}
use Rattle.turnstile_tally.proofs.Counted.{stays, counts_own}
use Rattle.turnstile_tally.proofs.crowd.call_and_close.Goals as goal

pub returns-clause-left : goal.returns-clause-left
returns-clause-left g c = let end = c.close-end.ensures in stays _ c.call-seen.result c.close-end.result _ end.0 Left (search rules) c.call-seen.ensures.state end.1 end.2

pub returns-clause-right : goal.returns-clause-right
returns-clause-right g c = let end = c.close-end.ensures in stays _ c.call-seen.result c.close-end.result _ end.0 Right (search rules) c.call-seen.ensures.state end.1 end.2

pub returns-clause-called : goal.returns-clause-called
returns-clause-called g c =
    let ends = c.call-seen.ensures.seat in
    counts_own _ c.call-seen.result _ c.args.side c.call-seen.result (subst (λ (es : List (Side × Tally)). Leads Counts c.args.stile.now.opening es c.call-seen.result) ends.known c.call-seen.ensures.state)
