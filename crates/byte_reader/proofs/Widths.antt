-- Numbers that are read are those that were written, and what was written is read again, in either order of the bytes.
use Rattle.std.proofs.Common.{◌≡◌, ℕ, ◌^◌, ◌<◌, ◌≤◌, ltb, false, List, ◌++◌, length, take, drop, Ok, refl, sym, ap, arith}
use Rattle.std.specs.Int.{Width, w16, w32, w64, byte_len, from_be_bytes, to_be_bytes, from_le_bytes, to_le_bytes}
use Rattle.std.proofs.lemmas.Bool.{ltb-false, le-ltb}
use Rattle.std.proofs.lemmas.List.{take_at, drop_at, take-append-drop, length-append, length-take}
use Rattle.std.proofs.lemmas.Nat.{be_bytes_2, be_bytes_4, be_bytes_8, from_be_bytes-to_be_bytes_2, from_be_bytes-to_be_bytes_4, from_be_bytes-to_be_bytes_8, le_bytes_2, le_bytes_4, le_bytes_8, from_le_bytes-to_le_bytes_2, from_le_bytes-to_le_bytes_4, from_le_bytes-to_le_bytes_8}
use Rattle.byte_reader.specs.Fields.{number_at}
use Rattle.byte_reader.proofs.Steps.{guard_ok}
use Rattle.byte_reader.proofs.Taken.{IsBytes, IsBytes-drop, IsBytes-take, Takes}

-- an order of bytes, at a width: the numbers below the limit are written in that many bytes, each in its one way
pub record IsWide (to : Width → ℕ → List ℕ) (from : Width → List ℕ → ℕ) (w : Width) (limit : ℕ) : Type 0 where
  pub len : (n : ℕ) → length (to w n) ≡ byte_len w
  pub back : (bytes : List ℕ) → length bytes ≡ byte_len w → IsBytes bytes → to w (from w bytes) ≡ bytes
  pub again : (n : ℕ) → n < limit → from w (to w n) ≡ n
  pub below : (bytes : List ℕ) → IsBytes bytes → from w bytes < limit

pub be_wide16 : IsWide to_be_bytes from_be_bytes w16 (2 ^ 16)
be_wide16 = record {
  len = λ n. refl;
  back = λ bytes len fits. be_bytes_2 bytes _ len fits refl;
  again = λ n lt. from_be_bytes-to_be_bytes_2 n lt;
  below = λ bytes fits. omega (arith, fits 0, fits 1);
}

pub be_wide32 : IsWide to_be_bytes from_be_bytes w32 (2 ^ 32)
be_wide32 = record {
  len = λ n. refl;
  back = λ bytes len fits. be_bytes_4 bytes _ len fits refl;
  again = λ n lt. from_be_bytes-to_be_bytes_4 n lt;
  below = λ bytes fits. omega (arith, fits 0, fits 1, fits 2, fits 3);
}

pub be_wide64 : IsWide to_be_bytes from_be_bytes w64 (2 ^ 64)
be_wide64 = record {
  len = λ n. refl;
  back = λ bytes len fits. be_bytes_8 bytes _ len fits refl;
  again = λ n lt. from_be_bytes-to_be_bytes_8 n lt;
  below = λ bytes fits. omega (arith, fits 0, fits 1, fits 2, fits 3, fits 4, fits 5, fits 6, fits 7);
}

pub le_wide16 : IsWide to_le_bytes from_le_bytes w16 (2 ^ 16)
le_wide16 = record {
  len = λ n. refl;
  back = λ bytes len fits. le_bytes_2 bytes _ len fits refl;
  again = λ n lt. from_le_bytes-to_le_bytes_2 n lt;
  below = λ bytes fits. omega (arith, fits 0, fits 1);
}

pub le_wide32 : IsWide to_le_bytes from_le_bytes w32 (2 ^ 32)
le_wide32 = record {
  len = λ n. refl;
  back = λ bytes len fits. le_bytes_4 bytes _ len fits refl;
  again = λ n lt. from_le_bytes-to_le_bytes_4 n lt;
  below = λ bytes fits. omega (arith, fits 0, fits 1, fits 2, fits 3);
}

pub le_wide64 : IsWide to_le_bytes from_le_bytes w64 (2 ^ 64)
le_wide64 = record {
  len = λ n. refl;
  back = λ bytes len fits. le_bytes_8 bytes _ len fits refl;
  again = λ n lt. from_le_bytes-to_le_bytes_8 n lt;
  below = λ bytes fits. omega (arith, fits 0, fits 1, fits 2, fits 3, fits 4, fits 5, fits 6, fits 7);
}

pub number_takes : {to : Width → ℕ → List ℕ} {from : Width → List ℕ → ℕ} (w : Width) (limit : ℕ) (wide : IsWide to from w limit) (bytes : List ℕ) (x : ℕ × List ℕ)
    → IsBytes bytes → number_at from w bytes ≡ Ok x → Takes bytes (to w x.0) x.1 × (x.0 < limit)
number_takes {to} {from} w limit wide bytes x fits e =
    let g = guard_ok (ltb (length bytes) (byte_len w)) (length bytes) (from w (take (byte_len w) bytes), drop (byte_len w) bytes) x e in
    let long : byte_len w ≤ length bytes = ltb-false _ _ g.0 in
    let n-is : from w (take (byte_len w) bytes) ≡ x.0 = ap (λ (p : ℕ × List ℕ). p.0) g.1 in
    let rest-is : drop (byte_len w) bytes ≡ x.1 = ap (λ (p : ℕ × List ℕ). p.1) g.1 in
    let taken : to w x.0 ≡ take (byte_len w) bytes = rw (← n-is) (wide.back (take (byte_len w) bytes) (omega (arith, length-take (byte_len w) bytes)) (IsBytes-take (byte_len w) bytes fits)) in
    (record { parts = rw (taken, ← rest-is) (sym (take-append-drop (byte_len w) bytes)); rest_fits = rw (← rest-is) (IsBytes-drop (byte_len w) bytes fits) }, rw (← n-is) (wide.below (take (byte_len w) bytes) (IsBytes-take (byte_len w) bytes fits)))

pub number_again : {to : Width → ℕ → List ℕ} {from : Width → List ℕ → ℕ} (w : Width) (limit : ℕ) (wide : IsWide to from w limit) (n : ℕ) (rest : List ℕ)
    → n < limit → number_at from w (to w n ++ rest) ≡ Ok (n, rest)
number_again {to} {from} w limit wide n rest lt =
    let len = wide.len n in
    let long : ltb (length (to w n ++ rest)) (byte_len w) ≡ false = le-ltb _ _ (omega (arith, length-append (to w n) rest)) in
    rw (long, take_at (to w n) rest (byte_len w) len, drop_at (to w n) rest (byte_len w) len, wide.again n lt) refl
