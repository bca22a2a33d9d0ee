use Rattle.std.proofs.Common.{rules, ◌≡◌, ◌==◌, length, true, false}
use Rattle.wire_views.proofs.Bodies.{whole, too_many, cut, no_count}
use Rattle.wire_views.proofs.row.whole_row.Goals as goal

pub returns-then-is_empty-clause-row : goal.returns-then-is_empty-clause-row
returns-then-is_empty-clause-row c =
    let none : (length c.in-Ok-cells_past.rest.now == 0) ≡ true = search rules in
    whole c.args.body.now c.in-Ok.cells.now c.in-Ok.count c.in-Ok-cells_past.ensures.0 c.in-Ok-cells_past.rest.now c.in-Ok.ensures c.in-Ok-cells_past.ensures.1 none

pub returns-else-is_empty-clause-bad : goal.returns-else-is_empty-clause-bad
returns-else-is_empty-clause-bad c =
    let some : (length c.in-Ok-cells_past.rest.now == 0) ≡ false = search rules in
    too_many c.args.body.now c.in-Ok.cells.now c.in-Ok.count c.in-Ok-cells_past.ensures.0 c.in-Ok-cells_past.rest.now c.in-Ok.ensures c.in-Ok-cells_past.ensures.1 some

pub returns-in-Err-cells_past-clause-bad : goal.returns-in-Err-cells_past-clause-bad
returns-in-Err-cells_past-clause-bad c = cut c.args.body.now c.in-Ok.cells.now c.in-Ok.count c.in-Err-cells_past.left c.in-Ok.ensures c.in-Err-cells_past.ensures

pub returns-in-Err-clause-bad : goal.returns-in-Err-clause-bad
returns-in-Err-clause-bad c = no_count c.args.body.now c.in-Err.left c.in-Err.ensures
