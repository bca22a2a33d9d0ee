-- A file longer than 65 bytes spells no master key.
use Rattle.std.proofs.Common.{◌≡◌, ℕ, ◌<◌, ◌≤◌, ◌+◌, ◌-◌, ◌*◌, ◌&&◌, Bool, true, false, if◌then◌else◌, leb, eqb, List, length, take, get_or, None, Result, Ok, Err, refl, arith}
use Rattle.std.proofs.lemmas.List.{length-take}
use Rattle.hex.specs.Hex.{decode_sized}
use Rattle.hex.specs.declared.error.FromHexError.{FromHexError}
use Rattle.hex.proofs.HexLemmas.{decode_sized-ok}
use Rattle.ring_file.specs.Master.{stem, some_key, master_of}

cut_length : (b : Bool) (text : List ℕ) → length text ≤ length (if b then take (length text - 1) text else text) + 1
cut_length true text = omega (arith, length-take (length text - 1) text)
cut_length false text = omega arith

none_of : (r : Result (List ℕ) FromHexError) → ((key : List ℕ) → r ≡ Ok key → ⊥) → some_key r ≡ None
none_of (Ok key) h = absurd (h key refl)
none_of (Err why) h = refl

pub long_master : (text : List ℕ) → 65 < length text → master_of text ≡ None
long_master text long =
    let cut = cut_length (leb 1 (length text) && eqb (get_or text (length text - 1) 0) 10) text in
    none_of (decode_sized (stem text) 32) (λ key e. let digits : length (stem text) ≡ 2 * 32 = decode_sized-ok (stem text) 32 key e in omega (arith, cut, digits, long))
