-- What was read is a front of what was left.
use Rattle.std.proofs.Common.{ℕ, ◌+◌, ◌-◌, ◌≤◌, List, ◌++◌, length, take, Option, arith, length-append}
use Rattle.std.proofs.lemmas.List.{length-take}
use Rattle.acra_devices.specs.Known.{Shrank}
use Rattle.acra_devices.specs.Grows.{shrank_then}
use Rattle.ring_file.specs.Whole.{TookFront}

pub took_piece : (left0 left left' : Option (List ℕ)) (bytes buf : List ℕ) (count limit : ℕ) → Shrank left0 left bytes → length bytes ≤ limit → Shrank left left' (take count buf) → length buf ≤ limit - length bytes + 1 → TookFront left0 left' (limit + 1)
took_piece left0 left left' bytes buf count limit took short more within = record {
  bytes = bytes ++ take count buf;
  took = shrank_then left0 left left' bytes (take count buf) took more;
  within = omega (arith, length-append bytes (take count buf), length-take count buf, short, within);
}
