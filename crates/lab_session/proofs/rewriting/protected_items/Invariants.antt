use Rattle.std.proofs.Common.{◌≡◌, map, take}
use Rattle.session_model.specs.Rewritten.{is_protected}
use Rattle.lab_session.proofs.rewriting.protected_items.Given as goal

abbrev pub invariant-items : goal.invariant-items
invariant-items l = l.protected.items ≡ map is_protected (take l.item-index l.item-items)
