use Rattle.std.proofs.Common.{◌≡◌, drop, map}
use Rattle.std.specs.List.{list_any}
use Rattle.table_machine.specs.Columns.{same}
use Rattle.table_binder.proofs.names.is_among.Given as goal

abbrev pub invariant-items : goal.invariant-items
invariant-items g l = list_any (same l.name) (map g.T.Named.name (drop l.item-index l.items)) ≡ list_any (same l.name) (map g.T.Named.name l.items)
