use Rattle.std.proofs.Common.{[], map, subst, sym}
use Rattle.serde_json.specs.View.{view}
use Rattle.censor.specs.Settings.{IsHandler, AreHandlers}
use Rattle.censor.proofs.Listed.{one_item, all_items, from_none}
use Rattle.censor.proofs.settings.handlers_of.Goals as goal

pub each-preserved : goal.each-preserved
each-preserved c =
    one_item IsHandler view c.args.items.now c.each.item-index _ [] c.each.handlers.items c.push_handler.new.handlers.items c.item-item.result c.each-test.true c.item-item.is
    c.each.invariant c.in_ok-push_handler.ensures

pub returns : goal.returns
returns c =
    subst (AreHandlers (map view c.args.items.now)) (sym c.from_vec.ensures)
    (from_none IsHandler _ _ (all_items IsHandler view c.args.items.now c.each.item-index _ [] c.each.handlers.items c.each-test.false c.each.invariant))
