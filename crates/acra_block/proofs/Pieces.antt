-- How a container is put together, and taken apart.
use Rattle.std.proofs.Common.{◌≡◌, ℕ, ◌+◌, ◌≤◌, List, ◌++◌, length, take, drop, ap, ◌∙◌, append_assoc, arith}
use Rattle.std.proofs.lemmas.List.{length-take, length-drop}

-- five pieces, one behind the other
pub five_pieces : (o0 o1 o2 o3 o4 o5 h a b c d : List ℕ) → o1 ≡ o0 ++ h → o2 ≡ o1 ++ a → o3 ≡ o2 ++ b → o4 ≡ o3 ++ c → o5 ≡ o4 ++ d → o5 ≡ o0 ++ (h ++ a ++ b ++ c ++ d)
five_pieces o0 o1 o2 o3 o4 o5 h a b c d e1 e2 e3 e4 e5 = rw (e5, e4, e3, e2, e1) (simp append_assoc)

-- a data key that is opened is as long as the place of its seal wants
pub key_length : (bytes seal key shown : List ℕ) → 112 ≤ length bytes → take 48 (drop 36 bytes) ≡ seal → length seal ≡ length key + 16 → shown ≡ key → length shown ≡ 32
key_length bytes seal key shown long e l s =
    let place : length (take 48 (drop 36 bytes)) ≡ 48 = length-take 48 (drop 36 bytes) ∙ omega (arith, length-drop 36 bytes) in
    omega (arith, place, ap length e, l, ap length s)
