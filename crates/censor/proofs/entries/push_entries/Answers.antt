use Rattle.serde_json.specs.View.{view}
use Rattle.censor.specs.Settings.{IsEntry}
use Rattle.censor.proofs.Listed.{one_item, all_items}
use Rattle.censor.proofs.entries.push_entries.Goals as goal

pub each-preserved : goal.each-preserved
each-preserved c =
    one_item (IsEntry c.args.of) view c.args.items.now c.each.item-index _ _ c.each.entries.items c.push_entry.new.entries.items c.item-item.result c.each-test.true c.item-item.is
    c.each.invariant c.in_ok-push_entry.ensures

pub returns : goal.returns
returns c =
    let all = all_items (IsEntry c.args.of) view c.args.items.now c.each.item-index _ _ c.each.entries.items c.each-test.false c.each.invariant in
    record { more = all.0; behind = all.1; are = all.2 }
