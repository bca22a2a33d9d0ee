use Rattle.std.proofs.Common.{◌≡◌, ◌+◌, ◌<◌, length, false}
use Rattle.turnstile_tally.specs.Counting.{calls}
use mathlib.Core.List.{IsPrefix}
use Rattle.turnstile_tally.proofs.meeting.meet.Given as goal

abbrev pub invariant-loop : goal.invariant-loop
invariant-loop g l =
    (l.seat.stile ≡ l.fn.seat.stile) × (l.seat.in_turn ≡ false)
    × IsPrefix l.fn.seat.known l.seat.known
    × (length l.seat.places ≡ length l.fn.seat.places + l.counter)
    × (0 < l.counter → 0 < calls l.fn.side l.seat.known)
