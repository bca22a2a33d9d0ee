-- A ring's file within its limit, and beyond it.
use Rattle.std.proofs.Common.{◌≡◌, ℕ, ◌<◌, ◌≤◌, ◌^◌, Bool, true, false, ltb, List, length, Err, refl}
use Rattle.std.proofs.lemmas.Bool.{lt-ltb, le-ltb}
use Rattle.rand_core.specs.Stream.{Stream}
use Rattle.keys_core.specs.declared.status.RingTrouble.TheVariants as trouble
use Rattle.keys_core.specs.Work.{opened_ring, made_or_read}

pub long_ring : (makes : Bool) (master : List ℕ) (s : Stream) (bytes : List ℕ) → 2 ^ 24 < length bytes → opened_ring makes master bytes s ≡ (Err trouble.TooLong, s)
long_ring makes master s bytes long = let more : ltb (2 ^ 24) (length bytes) ≡ true = lt-ltb _ _ long in rw more refl

pub short_ring : (makes : Bool) (master : List ℕ) (s : Stream) (bytes : List ℕ) → length bytes ≤ 2 ^ 24 → opened_ring makes master bytes s ≡ made_or_read makes master bytes s
short_ring makes master s bytes short = let most : ltb (2 ^ 24) (length bytes) ≡ false = le-ltb _ _ short in rw most refl
