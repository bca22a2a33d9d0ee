use Rattle.std.proofs.Common.{rules, ◌≡◌, subst}
use mathlib.Core.List.{IsPrefix}
use Rattle.turnstile.specs.Callers.{known_more, prefix_trans}
use Rattle.turnstile_tally.specs.Visits.{StandInOrder}
use Rattle.turnstile_tally.proofs.Standing.{stand_in_order}
use Rattle.turnstile_tally.proofs.visitor.visit.Goals as goal

pub returns-clause-known : goal.returns-clause-known
returns-clause-known g c =
    let one = known_more _ _ _ _ c.call-one.ensures.call in
    let two = known_more _ _ _ _ c.call-two.ensures.call in
    let all : IsPrefix c.new-visitor.result.seat.now.known c.call-two.new.self.seat.now.known = prefix_trans _ _ _ one two in
    let start : c.new-visitor.result.seat.now ≡ c.args.seat.now = c.new-visitor.ensures.seat in
    let whole : IsPrefix c.args.seat.now.known c.call-two.new.self.seat.now.known = subst (λ s. IsPrefix s.known c.call-two.new.self.seat.now.known) start all in
    search rules

pub returns-clause-stand : goal.returns-clause-stand
returns-clause-stand g c =
    let all = stand_in_order _ _ _ _ _ _ _ c.call-one.ensures.call c.call-two.ensures.call in
    let start : c.new-visitor.result.seat.now ≡ c.args.seat.now = c.new-visitor.ensures.seat in
    let whole : StandInOrder c.args.seat.now c.args.first c.call-one.result c.args.second c.call-two.result c.call-two.new.self.seat.now = subst (λ s. StandInOrder s c.args.first c.call-one.result c.args.second c.call-two.result c.call-two.new.self.seat.now) start all in
    search rules
