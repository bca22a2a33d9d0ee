use Rattle.std.proofs.Common.{sym, subst, refl}
use Rattle.serde_json.specs.View.{view}
use Rattle.censor.specs.Settings.{AreEntries}
use Rattle.censor.proofs.Listed.{three_lists, shown_as}
use Rattle.censor.proofs.settings.entries_of.Goals as goal

pub returns : goal.returns
returns c =
    subst (AreEntries (view c.args.value.now)) (sym c.from_vec.ensures)
    (three_lists (view c.args.value.now) c.push_entries.new.entries.items c.push_entries-2.new.entries.items c.push_entries-3.new.entries.items
    (shown_as _ _ _ _ _ _ c.in_ok-push_entries.ensures c.items_at.ensures c.new-entries.ensures.items) (shown_as _ _ _ _ _ _ c.in_ok-push_entries-2.ensures c.items_at-2.ensures refl)
    (shown_as _ _ _ _ _ _ c.in_ok-push_entries-3.ensures c.items_at-3.ensures refl))
