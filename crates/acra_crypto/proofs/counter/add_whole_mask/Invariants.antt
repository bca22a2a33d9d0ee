use Rattle.std.proofs.Common.{◌≡◌, ℕ, ◌<◌, ◌≤◌, length, get_or, bit_xor}
use Rattle.acra_crypto.proofs.counter.add_whole_mask.Given as goal

abbrev pub invariant-block : goal.invariant-block
invariant-block l = record {
  len : length l.bytes ≡ length l.fn.bytes;
  done : (k : ℕ) → k < l.i → get_or l.bytes k 0 ≡ bit_xor (get_or l.fn.bytes k 0) (get_or l.mask k 0);
  left : (k : ℕ) → l.i ≤ k → get_or l.bytes k 0 ≡ get_or l.fn.bytes k 0;
}
