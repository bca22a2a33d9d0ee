use Rattle.std.proofs.Common.{◌≡◌, ◌++◌, drop}
use Rattle.std.specs.List.{flat_map}
use Rattle.keys_core.specs.Lines.{old_line}
use Rattle.keys_core.proofs.lines.put_old_keys.Given as goal

abbrev pub invariant-keys : goal.invariant-keys
invariant-keys l = l.out.items ++ flat_map (old_line l.name) (drop l.key-index l.past) ≡ l.fn.out.items ++ flat_map (old_line l.name) l.past
