use Rattle.std.proofs.Common.{subst, ◌∙◌}
use Rattle.acra_base.specs.Histories.{Leads}
use Rattle.turnstile_tally.specs.Counting.{Counts}
use Rattle.turnstile_tally.specs.declared.machine.Side.TheVariants.{Left, Right}
use Rattle.turnstile_tally.specs.declared.machine.Tally.{Tally}
use Rattle.turnstile_tally.proofs.Counted.{still_calls}
use Rattle.turnstile_tally.proofs.meeting.meet_both.Goals as goal

pub returns : goal.returns
returns g c =
    let end = c.close-tally.ensures in
    let joined = c.join.ensures.seat in
    let opening = c.in_ok-stile.ensures.opening ∙ c.new.ensures in (
      end.0,
      subst (λ (t : Tally). Leads Counts t end.0 c.close-tally.result) opening end.2,
      (λ met. still_calls Right _ _ _ joined.this end.1 (c.join-left.ensures.first.2 met)),
      (λ met. still_calls Left _ _ _ joined.that end.1 (c.join-left.ensures.second.2 met)),
      (λ some. (still_calls Left _ _ _ joined.this end.1 (c.join-left.ensures.first.3 some), still_calls Right _ _ _ joined.that end.1 (c.join-left.ensures.second.3 some))),
    )
