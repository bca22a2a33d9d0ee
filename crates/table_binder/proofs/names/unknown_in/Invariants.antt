use Rattle.std.proofs.Common.{◌≡◌, drop, map}
use Rattle.table_machine.specs.Faults.{first}
use Rattle.table_binder.specs.Naming.{is_unknown}
use Rattle.table_binder.proofs.names.unknown_in.Given as goal

abbrev pub invariant-items : goal.invariant-items
invariant-items g l = first (is_unknown l.columns) (map g.T.Named.name (drop l.item-index l.items)) ≡ first (is_unknown l.columns) (map g.T.Named.name l.items)
