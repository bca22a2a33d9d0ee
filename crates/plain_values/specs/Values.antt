-- The values of a column: canonical plaintext, and its spelling.
use Rattle.std.specs.Prelude.{ℕ, ◌^◌, ◌≡◌, ◌≤◌, ◌==◌, ◌&&◌, ◌||◌, List, [], ◌∷◌, length, drop, reverse, Bool, true, false, not, nat_lt, nat_le, if◌then◌else◌, ℤ, pos, negsuc, Result, Ok, Err}
use Rattle.std.specs.List.{list_all, list_any}
use Rattle.std.specs.Str.{is_utf8, all_ascii_digits}
use Rattle.std.specs.Str.Parse.{without_leading_sign, signed_digits_value}
use Rattle.std.specs.Fmt.{signed_decimal}
use Rattle.std.specs.Int.{from_be_bytes, to_be_bytes, cast_signed, cast_unsigned}
use mir.Syntax.{w32, w64}
use Rattle.hex.specs.Hex.{decode_of, encode_lower}
use Rattle.hex.specs.declared.error.FromHexError.{FromHexError}
use Rattle.acra_base.specs.declared.kind.ValueKind.{ValueKind}
use Rattle.acra_base.specs.declared.kind.ValueKind.TheVariants.{Str, Bytes, Int32, Int64}

-- what a text or a binary value reads as
pub data Reading : Type 0 where
  plain : List ℕ → Reading
  bad : Reading
  out_of_range : Reading
  too_long : Reading

-- the most bytes of a canonical plaintext
abbrev pub most_plain : ℕ
most_plain = 262144

abbrev pub within_bound : List ℕ → Reading
within_bound t = if nat_le (length t) most_plain then plain t else too_long

-- a plaintext is not longer
abbrev pub bounded : Reading → Reading
bounded (plain t) = within_bound t
bounded bad = bad
bounded out_of_range = out_of_range
bounded too_long = too_long

-- ---- integers

-- spaces (0x20) at the front fall away
abbrev pub skip_spaces : List ℕ → List ℕ
skip_spaces [] = []
skip_spaces (b ∷ bs) = if b == 32 then skip_spaces bs else b ∷ bs

-- and at both ends
abbrev pub trim_spaces : List ℕ → List ℕ
trim_spaces t = reverse (skip_spaces (reverse (skip_spaces t)))

-- an optional sign, and digits
abbrev pub is_integer_text : List ℕ → Bool
is_integer_text t = nat_lt 0 (length (without_leading_sign t)) && all_ascii_digits (without_leading_sign t)

-- the kinds of integers
abbrev pub is_integer : ValueKind → Bool
is_integer Str = false
is_integer Bytes = false
is_integer Int32 = true
is_integer Int64 = true

-- the number of bytes of an integer kind
abbrev pub kind_size : ValueKind → ℕ
kind_size Int32 = 4
kind_size _ = 8

-- the number lies in the kind's range
abbrev pub is_in_range : ValueKind → ℤ → Bool
is_in_range Int32 (pos n) = nat_lt n (2 ^ 31)
is_in_range Int32 (negsuc n) = nat_lt n (2 ^ 31)
is_in_range _ (pos n) = nat_lt n (2 ^ 63)
is_in_range _ (negsuc n) = nat_lt n (2 ^ 63)

-- a number: decimal without leading zeros or `+`
abbrev pub number_reading : ValueKind → ℤ → Reading
number_reading kind z = if is_in_range kind z then plain (signed_decimal z) else out_of_range

abbrev pub integer_reading : ValueKind → List ℕ → Reading
integer_reading kind t = if is_integer_text (trim_spaces t) then number_reading kind (signed_digits_value 10 (trim_spaces t)) else bad

-- ---- texts and bytes

abbrev pub is_plain_text : List ℕ → Bool
is_plain_text t = is_utf8 t && list_all (λ b. not (b == 0)) t

abbrev pub text_reading : List ℕ → Reading
text_reading t = if is_plain_text t then plain t else bad

-- a text in hexadecimal form begins with `\x`
abbrev pub is_hex_form : List ℕ → Bool
is_hex_form (a ∷ b ∷ rest) = (a == 92) && (b == 120)
is_hex_form (a ∷ []) = false
is_hex_form [] = false

abbrev pub hex_reading : Result (List ℕ) FromHexError → Reading
hex_reading (Ok bytes) = plain bytes
hex_reading (Err e) = bad

abbrev pub bytes_reading : List ℕ → Reading
bytes_reading t =
    if is_hex_form t then hex_reading (decode_of (drop 2 t))
    else if list_any (λ b. b == 92) t then bad
    else plain t

-- ---- the canonical plaintext

-- from a text of any length
abbrev pub reading : ValueKind → List ℕ → Reading
reading Str t = text_reading t
reading Bytes t = bytes_reading t
reading Int32 t = integer_reading Int32 t
reading Int64 t = integer_reading Int64 t

-- from a text, within the bound; an integer's is short
abbrev pub canonical : ValueKind → List ℕ → Reading
canonical Str t = bounded (text_reading t)
canonical Bytes t = bounded (bytes_reading t)
canonical Int32 t = integer_reading Int32 t
canonical Int64 t = integer_reading Int64 t

-- the OIDs of the types that a client declares for a text: bytea, text and varchar
abbrev pub is_text_type : ℕ → Bool
is_text_type declared = (declared == 17) || (declared == 25) || (declared == 1043)

-- the number of bytes of a binary integer: that of int4 (OID 23), of int8 (20), or else the kind's own
abbrev pub binary_size : ValueKind → ℕ → ℕ
binary_size kind declared = if declared == 23 then 4 else if declared == 20 then 8 else kind_size kind

-- big-endian two's complement, of 4 bytes or else of 8
abbrev pub signed_of : List ℕ → ℤ
signed_of t = if length t == 4 then cast_signed w32 (from_be_bytes w32 t) else cast_signed w64 (from_be_bytes w64 t)

abbrev pub binary_reading : ValueKind → ℕ → List ℕ → Reading
binary_reading kind declared t =
    if is_text_type declared then integer_reading kind t
    else if length t == binary_size kind declared then number_reading kind (signed_of t)
    else bad

-- from binary form, under a declared type
abbrev pub canonical_binary : ValueKind → ℕ → List ℕ → Reading
canonical_binary Str declared t = bounded (text_reading t)
canonical_binary Bytes declared t = within_bound t
canonical_binary Int32 declared t = binary_reading Int32 declared t
canonical_binary Int64 declared t = binary_reading Int64 declared t

-- a canonical plaintext of a kind
abbrev pub IsCanonical : ValueKind → List ℕ → Type 0
IsCanonical Str t = (is_plain_text t ≡ true) × (length t ≤ most_plain)
IsCanonical Bytes t = length t ≤ most_plain
IsCanonical Int32 t = (z : ℤ) × (is_in_range Int32 z ≡ true) × (t ≡ signed_decimal z)
IsCanonical Int64 t = (z : ℤ) × (is_in_range Int64 z ≡ true) × (t ≡ signed_decimal z)

-- ---- the spelling for a client

-- the bytes of an integer's kind, big-endian
abbrev pub integer_bytes : ValueKind → ℤ → List ℕ
integer_bytes Int32 z = to_be_bytes w32 (cast_unsigned w32 z)
integer_bytes _ z = to_be_bytes w64 (cast_unsigned w64 z)

-- in text form
abbrev pub text_spelling : ValueKind → List ℕ → List ℕ
text_spelling Bytes t = 92 ∷ 120 ∷ encode_lower t
text_spelling Str t = t
text_spelling Int32 t = t
text_spelling Int64 t = t

-- in binary form
abbrev pub binary_spelling : ValueKind → List ℕ → List ℕ
binary_spelling Int32 t = integer_bytes Int32 (signed_digits_value 10 t)
binary_spelling Int64 t = integer_bytes Int64 (signed_digits_value 10 t)
binary_spelling Str t = t
binary_spelling Bytes t = t

abbrev pub spelling : ValueKind → List ℕ → Bool → List ℕ
spelling kind t binary = if binary then binary_spelling kind t else text_spelling kind t
