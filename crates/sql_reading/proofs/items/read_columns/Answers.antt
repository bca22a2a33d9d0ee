use Rattle.std.proofs.Common.{arith}
use Rattle.sql_reading.proofs.Lists.{listing_begins, listing_stuck, listing_step, listing_ends}
use Rattle.sql_reading.proofs.Chosen.{listing_columns}
use Rattle.sql_reading.proofs.Shrinking.{comma_less, item_within}
use Rattle.sql_reading.proofs.Steps.{gives_ended, ended, ended_first, ended_second, both_ok}
use Rattle.sql_reading.proofs.items.read_columns.Goals as goal

pub returns-in_err-column : goal.returns-in_err-column
returns-in_err-column c = gives_ended _ _ _ _ _ (ended_first _ (ended _ _ _ _ _ c.from_residual.ensures.1 c.in_err-column.ensures))

pub returns-in_err-label : goal.returns-in_err-label
returns-in_err-label c =
    gives_ended _ _ _ _ _ (ended_second c.in_ok-column.ensures.2 (ended_first _ (ended _ _ _ _ _ c.from_residual-in_err-label.ensures.1 c.in_err-label.ensures)))

pub more-init : goal.more-init
more-init c = listing_begins _ _ _ _

pub returns-in_err-next : goal.returns-in_err-next
returns-in_err-next c =
    gives_ended _ _ _ _ _
    (ended_second c.in_ok-column.ensures.2
    (ended_second c.in_ok-label.ensures.2
    (listing_stuck c.more.invariant c.more-test.ensures.0 c.more-test.ensures.1
    (ended _ _ _ _ _ c.from_residual-in_err-next.ensures.1 c.in_err-next.ensures))))

pub more-preserved : goal.more-preserved
more-preserved c = listing_step c.more.invariant c.more-test.ensures.0 c.more-test.ensures.1 c.in_ok-next.ensures.1 c.in_ok-next.ensures.2 c.in_ok-push-2.ensures.ok

pub more-smaller : goal.more-smaller
more-smaller c =
    let comma = comma_less c.more-test.ensures.0 in
    let part = item_within c.in_ok-next.ensures.2 in
    omega arith

pub returns : goal.returns
returns c =
    let list = c.more.invariant in
    let column = c.in_ok-column.ensures in
    let label = c.in_ok-label.ensures in
    ((column.0, (label.0, list.more)), listing_columns c.args.first _ column.0 _ label.0 _ _ _ list.more column.1 label.1 c.new-items.ensures c.in_ok-push.ensures.ok list.is, both_ok column.2 (both_ok label.2 (listing_ends list c.more-test.ensures.0 c.more-test.ensures.1)))
