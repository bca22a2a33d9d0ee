use Rattle.std.proofs.Common.{rules, ◌≡◌, ◌==◌, length, true, false}
use Rattle.wire_views.proofs.Bypassed.{back_whole, back_more, back_cut}
use Rattle.wire_views.proofs.checking.back_left.Goals as goal

pub returns-then-is_empty-clause-done : goal.returns-then-is_empty-clause-done
returns-then-is_empty-clause-done c =
    let none : (length c.in-Ok.rest.now == 0) ≡ true = search rules in
    back_whole c.args.kind c.args.body.now c.in-Ok.rest.now c.in-Ok.ensures none

pub returns-else-is_empty-clause-bad : goal.returns-else-is_empty-clause-bad
returns-else-is_empty-clause-bad c =
    let some : (length c.in-Ok.rest.now == 0) ≡ false = search rules in
    back_more c.args.kind c.args.body.now c.in-Ok.rest.now c.in-Ok.ensures some

pub returns-in-Err-clause-bad : goal.returns-in-Err-clause-bad
returns-in-Err-clause-bad c = back_cut c.args.kind c.args.body.now c.in-Err.left c.in-Err.ensures
