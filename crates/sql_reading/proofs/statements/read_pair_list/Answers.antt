use Rattle.std.proofs.Common.{arith}
use Rattle.sql_readers.specs.Productions.{some_of}
use Rattle.sql_reading.proofs.Lists.{listing_begins, listing_stuck, listing_step, listing_ends, listing_all}
use Rattle.sql_reading.proofs.Shrinking.{comma_less, pair_within}
use Rattle.sql_reading.proofs.Steps.{gives_ended, ended, ended_seen, ended_first, ended_second, seen_ok, both_ok}
use Rattle.sql_reading.proofs.statements.read_pair_list.Goals as goal

pub returns-in_err-first : goal.returns-in_err-first
returns-in_err-first c = gives_ended _ _ _ _ _ (ended_seen _ (ended_first _ (ended _ _ _ _ _ c.from_residual.ensures.1 c.in_err-first.ensures)))

pub more-init : goal.more-init
more-init c = listing_begins _ _ _ _

pub returns-in_err-next : goal.returns-in_err-next
returns-in_err-next c =
    gives_ended _ _ _ _ _
    (ended_seen _
    (ended_second c.in_ok-first.ensures.2
    (listing_stuck c.more.invariant c.more-test.ensures.0 c.more-test.ensures.1
    (ended _ _ _ _ _ c.from_residual-in_err-next.ensures.1 c.in_err-next.ensures))))

pub more-preserved : goal.more-preserved
more-preserved c = listing_step c.more.invariant c.more-test.ensures.0 c.more-test.ensures.1 c.in_ok-next.ensures.1 c.in_ok-next.ensures.2 c.in_ok-push-2.ensures.ok

pub more-smaller : goal.more-smaller
more-smaller c =
    let comma = comma_less c.more-test.ensures.0 in
    let part = pair_within c.in_ok-next.ensures.2 in
    omega arith

pub returns : goal.returns
returns c =
    let list = c.more.invariant in
    let first = c.in_ok-first.ensures in
    (some_of (first.0, list.more), listing_all _ _ first.0 _ _ _ _ first.1 c.new-pairs.ensures c.in_ok-push.ensures.ok list.is, seen_ok _ (both_ok first.2 (listing_ends list c.more-test.ensures.0 c.more-test.ensures.1)))
