use Rattle.std.proofs.Common.{◌≡◌, [], take, drop, map, reverse}
use Rattle.table_machine.specs.Faults.{first_again}
use Rattle.table_binder.proofs.names.twice_in.Given as goal

abbrev pub invariant-items : goal.invariant-items
invariant-items g l = first_again (reverse (map g.T.Named.name (take l.index l.items))) (map g.T.Named.name (drop l.index l.items)) ≡ first_again [] (map g.T.Named.name l.items)
