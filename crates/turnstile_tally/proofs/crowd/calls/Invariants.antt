use Rattle.std.proofs.Common.{◌≡◌, ◌+◌, length, false}
use mathlib.Core.List.{IsPrefix}
use Rattle.turnstile_tally.proofs.crowd.calls.Given as goal

abbrev pub invariant-loop : goal.invariant-loop
invariant-loop g l =
    (l.seat.stile ≡ l.fn.seat.stile) × (l.seat.in_turn ≡ false)
    × IsPrefix l.fn.seat.known l.seat.known
    × (length l.seat.places ≡ length l.fn.seat.places + l.counter)
