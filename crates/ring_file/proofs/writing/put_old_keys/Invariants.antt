use Rattle.std.proofs.Common.{◌≡◌, ◌++◌, drop}
use Rattle.std.specs.List.{flat_map}
use Rattle.ring_file.specs.Form.{old_bytes}
use Rattle.ring_file.proofs.writing.put_old_keys.Given as goal

abbrev pub invariant-keys : goal.invariant-keys
invariant-keys l = l.out.items ++ flat_map old_bytes (drop l.key-index l.past) ≡ l.fn.out.items ++ flat_map old_bytes l.past
