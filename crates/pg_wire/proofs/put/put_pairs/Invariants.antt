use Rattle.std.proofs.Common.{◌≡◌, ◌++◌, take}
use Rattle.std.specs.List.{flat_map}
use Rattle.pg_wire.specs.Fronts.{pair_bytes}
use Rattle.pg_wire.proofs.put.put_pairs.Given as goal

abbrev pub invariant-pairs : goal.invariant-pairs
invariant-pairs l = l.out.items ≡ l.initial.out.items ++ flat_map pair_bytes (take l.pair-index l.pairs)
