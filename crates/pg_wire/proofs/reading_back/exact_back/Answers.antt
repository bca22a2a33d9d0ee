use Rattle.std.proofs.Common.{Ok, arith}
use Rattle.pg_wire.proofs.BackMessages.{back_spelled}
use Rattle.pg_wire.proofs.Readings.{back_only, back_offset, back_unspelled}
use Rattle.pg_wire.proofs.Within.{back_left}
use Rattle.pg_wire.proofs.BackPlaces.{back_place}
use Rattle.pg_wire.proofs.reading_back.exact_back.Goals as goal

pub overflow_sub-result : goal.overflow_sub-result
overflow_sub-result c = back_left c.args.kind c.args.body.now c.in-Err-At.left (rw c.in-Err-At.field-0-is at c.in-Err-At.ensures)

pub returns-in-Err-At-clause-exact : goal.returns-in-Err-At-clause-exact
returns-in-Err-At-clause-exact c = back_offset c.args.kind c.args.body.now c.in-Err-At.left (rw c.in-Err-At.field-0-is at c.in-Err-At.ensures)

pub returns-in-Err-At-clause-only : goal.returns-in-Err-At-clause-only
returns-in-Err-At-clause-only c = λ m spelled. back_unspelled c.args.kind c.args.body.now c.in-Err-At.left m (rw c.in-Err-At.field-0-is at c.in-Err-At.ensures) spelled

pub returns-in-Ok-clause-found : goal.returns-in-Ok-clause-found
returns-in-Ok-clause-found c = back_spelled c.args.kind c.args.body.now c.in-Ok.message (λ i. omega (arith, c.type_inv.body i)) c.in-Ok.ensures

pub returns-in-Ok-clause-only : goal.returns-in-Ok-clause-only
returns-in-Ok-clause-only c = λ m spelled. back_only c.args.kind c.args.body.now (Ok c.in-Ok.message) m c.in-Ok.ensures spelled

pub returns-in-Err-At-clause-place : goal.returns-in-Err-At-clause-place
returns-in-Err-At-clause-place c = back_place c.args.kind c.args.body.now c.in-Err-At.left (λ i. omega (arith, c.type_inv.body i)) (rw c.in-Err-At.field-0-is at c.in-Err-At.ensures)
