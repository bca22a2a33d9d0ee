use Rattle.std.proofs.Common.{Ok, arith}
use Rattle.pg_wire.proofs.FrontMessages.{front_spelled}
use Rattle.pg_wire.proofs.Readings.{front_only, front_offset, front_unspelled}
use Rattle.pg_wire.proofs.Within.{front_left}
use Rattle.pg_wire.proofs.FrontPlaces.{front_place}
use Rattle.pg_wire.proofs.reading_front.exact_front.Goals as goal

pub overflow_sub-result : goal.overflow_sub-result
overflow_sub-result c = front_left c.args.kind c.args.body.now c.in-Err-At.left (rw c.in-Err-At.field-0-is at c.in-Err-At.ensures)

pub returns-in-Err-At-clause-exact : goal.returns-in-Err-At-clause-exact
returns-in-Err-At-clause-exact c = front_offset c.args.kind c.args.body.now c.in-Err-At.left (rw c.in-Err-At.field-0-is at c.in-Err-At.ensures)

pub returns-in-Err-At-clause-only : goal.returns-in-Err-At-clause-only
returns-in-Err-At-clause-only c = λ m spelled. front_unspelled c.args.kind c.args.body.now c.in-Err-At.left m (rw c.in-Err-At.field-0-is at c.in-Err-At.ensures) spelled

pub returns-in-Ok-clause-found : goal.returns-in-Ok-clause-found
returns-in-Ok-clause-found c = front_spelled c.args.kind c.args.body.now c.in-Ok.message (λ i. omega (arith, c.type_inv.body i)) c.in-Ok.ensures

pub returns-in-Ok-clause-only : goal.returns-in-Ok-clause-only
returns-in-Ok-clause-only c = λ m spelled. front_only c.args.kind c.args.body.now (Ok c.in-Ok.message) m c.in-Ok.ensures spelled

pub returns-in-Err-At-clause-place : goal.returns-in-Err-At-clause-place
returns-in-Err-At-clause-place c = front_place c.args.kind c.args.body.now c.in-Err-At.left (λ i. omega (arith, c.type_inv.body i)) (rw c.in-Err-At.field-0-is at c.in-Err-At.ensures)
