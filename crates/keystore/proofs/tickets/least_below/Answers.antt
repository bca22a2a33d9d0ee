use Rattle.keystore.proofs.Least.{least_at_first, none_at_first}
use Rattle.keystore.proofs.tickets.least_below.Goals as goal

pub returns-then-ticket-number : goal.returns-then-ticket-number
returns-then-ticket-number c = least_at_first c.args.number c.args.out.now c.in-Some.ticket.now c.requires c.in-Some.ensures.value c.if-ticket-number.true

pub returns-else-ticket-number : goal.returns-else-ticket-number
returns-else-ticket-number c = none_at_first c.args.number c.args.out.now c.in-Some.ticket.now c.requires c.in-Some.ensures.value c.if-ticket-number.false
