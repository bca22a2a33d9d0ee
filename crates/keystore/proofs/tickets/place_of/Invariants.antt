use Rattle.std.proofs.Common.{◌≡◌, ℕ, ◌<◌, false, get_or}
use Rattle.keystore.specs.declared.tickets.Ticket.{Ticket}
use Rattle.keystore.specs.Rings.{is_ticket}
use Rattle.keystore.proofs.tickets.place_of.Given as goal

abbrev pub invariant-tickets : goal.invariant-tickets
invariant-tickets l = (k : ℕ) (d : Ticket) → k < l.place → is_ticket l.number (get_or l.out k d) ≡ false
