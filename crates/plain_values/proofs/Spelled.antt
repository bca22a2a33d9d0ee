-- What is spelled for a client reads back as the plaintext.
use Rattle.std.proofs.Common.{◌≡◌, ◌<◌, ◌≤◌, ◌==◌, ◌^◌, ℕ, suc, List, [], ◌∷◌, length, Bool, true, false, not, ◌&&◌, refl, sym, ap, ◌∙◌, arith, ℤ, pos, negsuc, neg_ℤ, reverse, nat_le, nat_lt, lit<, true≢false, subst}
use Rattle.std.specs.Char.{is_ascii_digit}
use Rattle.std.specs.List.{list_all}
use Rattle.std.specs.Str.{all_ascii_digits}
use Rattle.std.specs.Str.Parse.{without_leading_sign, starts_with_minus, digits_value, signed_digits_value}
use Rattle.std.specs.Fmt.{decimal, signed_decimal}
use Rattle.std.specs.Int.{to_be_bytes, cast_signed, cast_unsigned}
use Rattle.std.proofs.lemmas.Bool.{and_parts, and_from, not-true, lt-ltb, ltb-true, le-leb, cond-false, cond-true, not_from_false}
use Rattle.std.proofs.lemmas.Bool.Decides.{nat_tests}
use Rattle.std.proofs.lemmas.Fmt.{decimal_is_IsNumeral}
use Rattle.std.proofs.lemmas.Int.{to_z-of_z}
use Rattle.std.proofs.lemmas.Nat.{from_be_bytes-to_be_bytes_4, from_be_bytes-to_be_bytes_8}
use Rattle.std.proofs.lemmas.List.Folds.{list_all-append}
use mir.Syntax.{w32, w64}
use mir.Val.{SFits}
use Rattle.hex.specs.Hex.{IsBytes, decode_of, encode_lower}
use Rattle.hex.proofs.HexLemmas.{decode_of-encode_lower}
use Rattle.std.proofs.lemmas.List.{reverse-append, reverse-reverse}
use Rattle.plain_values.specs.Values.{IsCanonical, canonical, canonical_binary, text_spelling, binary_spelling, integer_bytes, most_plain, within_bound, bounded, text_reading, hex_reading, is_plain_text, plain, bad, too_long, is_integer_text, is_in_range, skip_spaces, trim_spaces, integer_reading, number_reading, signed_of}
use Rattle.acra_base.specs.declared.kind.ValueKind.{ValueKind}
use Rattle.acra_base.specs.declared.kind.ValueKind.TheVariants.{Str, Bytes, Int32, Int64}
use Rattle.plain_values.specs.Values.{is_integer}
use Rattle.plain_values.proofs.Integers.{model, fits_from_range}

-- ---- digits

no_sign_at : (c : ℕ) → is_ascii_digit c ≡ true → (s : ℕ) → s < 48 → (c == s) ≡ false
no_sign_at c digit s low = grind (arith, nat_tests)

digits_unsigned : (ds : List ℕ) → all_ascii_digits ds ≡ true → without_leading_sign ds ≡ ds
digits_unsigned [] h = refl
digits_unsigned (c ∷ cs) h =
    let digit = (and_parts (is_ascii_digit c) (all_ascii_digits cs) h).0 in rw (no_sign_at c digit 45 (lit< tt), no_sign_at c digit 43 (lit< tt)) refl

digits_no_minus : (ds : List ℕ) → all_ascii_digits ds ≡ true → starts_with_minus ds ≡ false
digits_no_minus [] h = refl
digits_no_minus (c ∷ cs) h = no_sign_at c ((and_parts (is_ascii_digit c) (all_ascii_digits cs) h).0) 45 (lit< tt)

decimal_digits : (n : ℕ) → n < 2 ^ 64 → all_ascii_digits (decimal n) ≡ true
decimal_digits n h = model.from (decimal n) ((decimal_is_IsNumeral n h).0).1

decimal_long : (n : ℕ) → n < 2 ^ 64 → 0 < length (decimal n)
decimal_long n h = ((decimal_is_IsNumeral n h).0).0

decimal_value : (n : ℕ) → n < 2 ^ 64 → digits_value 10 (decimal n) ≡ n
decimal_value n h = (decimal_is_IsNumeral n h).1

-- ---- a number in decimal

abbrev Small : ℤ → Type 0
Small (pos n) = n < 2 ^ 63
Small (negsuc n) = n < 2 ^ 63

pub small_32 : (z : ℤ) → is_in_range Int32 z ≡ true → Small z
small_32 (pos n) h = let low = ltb-true n (2 ^ 31) h in omega arith
small_32 (negsuc n) h = let low = ltb-true n (2 ^ 31) h in omega arith

pub small_64 : (z : ℤ) → is_in_range Int64 z ≡ true → Small z
small_64 (pos n) h = ltb-true n (2 ^ 63) h
small_64 (negsuc n) h = ltb-true n (2 ^ 63) h

unsigned_reads : (ds : List ℕ) → all_ascii_digits ds ≡ true → 0 < length ds → is_integer_text ds ≡ true
unsigned_reads ds digits long =
    let P : List ℕ → Type 0 = λ xs. (nat_lt 0 (length xs) && all_ascii_digits xs) ≡ true in
    subst P (sym (digits_unsigned ds digits)) (and_from _ _ (lt-ltb 0 _ long) digits)

unsigned_means : (ds : List ℕ) (n : ℕ) → all_ascii_digits ds ≡ true → digits_value 10 ds ≡ n → signed_digits_value 10 ds ≡ pos n
unsigned_means ds n digits e =
    cond-false (starts_with_minus ds) _ _ (digits_no_minus ds digits) ∙ (ap (λ xs. pos (digits_value 10 xs)) (digits_unsigned ds digits) ∙ ap pos e)

pub decimal_reads : (z : ℤ) → Small z → is_integer_text (signed_decimal z) ≡ true
decimal_reads (pos n) h = let low : n < 2 ^ 64 = omega arith in unsigned_reads (decimal n) (decimal_digits n low) (decimal_long n low)
decimal_reads (negsuc n) h =
    let low : suc n < 2 ^ 64 = omega arith in and_from _ _ (lt-ltb 0 _ (decimal_long (suc n) low)) (decimal_digits (suc n) low)

pub decimal_means : (z : ℤ) → Small z → signed_digits_value 10 (signed_decimal z) ≡ z
decimal_means (pos n) h = let low : n < 2 ^ 64 = omega arith in unsigned_means (decimal n) n (decimal_digits n low) (decimal_value n low)
decimal_means (negsuc n) h = let low : suc n < 2 ^ 64 = omega arith in ap (λ m. neg_ℤ (pos m)) (decimal_value (suc n) low)

-- what a canonical plaintext of an integer kind is
pub record IsNumber (kind : ValueKind) (t : List ℕ) : Type 0 where
  pub text : is_integer_text t ≡ true
  pub range : is_in_range kind (signed_digits_value 10 t) ≡ true
  pub wide : is_in_range Int64 (signed_digits_value 10 t) ≡ true

-- a number of 64 bits is the value of its decimal text
small_of : (z : ℤ) → SFits w64 z → Small z
small_of (pos n) h = h.sfits
small_of (negsuc n) h = h.sfits

pub fitting_means : (z : ℤ) → SFits w64 z → signed_digits_value 10 (signed_decimal z) ≡ z
fitting_means z h = decimal_means z (small_of z h)

from_small : (z : ℤ) → Small z → is_in_range Int64 z ≡ true
from_small (pos n) h = lt-ltb n (2 ^ 63) h
from_small (negsuc n) h = lt-ltb n (2 ^ 63) h

number_at : (kind : ValueKind) (t : List ℕ) (z : ℤ) → is_in_range kind z ≡ true → Small z → t ≡ signed_decimal z → IsNumber kind t
number_at kind t z h small is =
    let means : signed_digits_value 10 t ≡ z = ap (signed_digits_value 10) is ∙ decimal_means z small in
    record {
      text = ap is_integer_text is ∙ decimal_reads z small;
      range = ap (is_in_range kind) means ∙ h;
      wide = ap (is_in_range Int64) means ∙ from_small z small;
    }

pub is_number : (kind : ValueKind) (t : List ℕ) → IsCanonical kind t → is_integer kind ≡ true → IsNumber kind t
is_number Str t h e = absurd (true≢false (sym e))
is_number Bytes t h e = absurd (true≢false (sym e))
is_number Int32 t h e = number_at Int32 t h.0 h.1 (small_32 h.0 h.1) h.2
is_number Int64 t h e = number_at Int64 t h.0 h.1 (small_64 h.0 h.1) h.2

-- ---- spaces

abbrev no_space : ℕ → Bool
no_space b = not (b == 32)

skip_none : (t : List ℕ) → list_all no_space t ≡ true → skip_spaces t ≡ t
skip_none [] h = refl
skip_none (b ∷ bs) h = let other = not-true (b == 32) (and_parts (no_space b) (list_all no_space bs) h).0 in rw other refl

reverse_none : (t : List ℕ) → list_all no_space t ≡ true → list_all no_space (reverse t) ≡ true
reverse_none [] h = refl
reverse_none (b ∷ bs) h =
    let parts = and_parts (no_space b) (list_all no_space bs) h in
    ap (list_all no_space) (reverse-append (b ∷ []) bs) ∙ (list_all-append no_space (reverse bs) (b ∷ []) ∙ and_from _ _ (reverse_none bs parts.1) (and_from (no_space b) true parts.0 refl))

trim_none : (t : List ℕ) → list_all no_space t ≡ true → trim_spaces t ≡ t
trim_none t h =
    ap (λ xs. reverse (skip_spaces (reverse xs))) (skip_none t h) ∙ (ap reverse (skip_none (reverse t) (reverse_none t h)) ∙ reverse-reverse t)

digits_no_space : (ds : List ℕ) → all_ascii_digits ds ≡ true → list_all no_space ds ≡ true
digits_no_space [] h = refl
digits_no_space (c ∷ cs) h =
    let parts = and_parts (is_ascii_digit c) (all_ascii_digits cs) h in
    and_from _ _ (not_from_false (c == 32) (no_sign_at c parts.0 32 (lit< tt))) (digits_no_space cs parts.1)

decimal_no_space : (z : ℤ) → Small z → list_all no_space (signed_decimal z) ≡ true
decimal_no_space (pos n) h = let low : n < 2 ^ 64 = omega arith in digits_no_space (decimal n) (decimal_digits n low)
decimal_no_space (negsuc n) h = let low : suc n < 2 ^ 64 = omega arith in digits_no_space (decimal (suc n)) (decimal_digits (suc n) low)

-- ---- reading back

within : (t : List ℕ) → length t ≤ most_plain → within_bound t ≡ plain t
within t h = cond-true (nat_le (length t) most_plain) (plain t) too_long (le-leb (length t) most_plain h)

number_back : (kind : ValueKind) (z w : ℤ) → is_in_range kind z ≡ true → w ≡ z → number_reading kind w ≡ plain (signed_decimal z)
number_back kind z w h is = rw (is, h) refl

integer_back : (kind : ValueKind) (t : List ℕ) (z : ℤ) → is_in_range kind z ≡ true → Small z → t ≡ signed_decimal z → integer_reading kind t ≡ plain t
integer_back kind t z h small is =
    let trimmed : trim_spaces t ≡ t = trim_none t (ap (list_all no_space) is ∙ decimal_no_space z small) in
    let text : is_integer_text (trim_spaces t) ≡ true = ap is_integer_text (trimmed ∙ is) ∙ decimal_reads z small in
    let means : signed_digits_value 10 (trim_spaces t) ≡ z = ap (signed_digits_value 10) (trimmed ∙ is) ∙ decimal_means z small in
    cond-true (is_integer_text (trim_spaces t)) _ _ text ∙ (number_back kind z _ h means ∙ ap plain (sym is))

text_back : (t : List ℕ) → is_plain_text t ≡ true → length t ≤ most_plain → bounded (text_reading t) ≡ plain t
text_back t h short = ap bounded (cond-true (is_plain_text t) (plain t) bad h) ∙ within t short

hex_back : (t : List ℕ) → IsBytes t → length t ≤ most_plain → bounded (hex_reading (decode_of (encode_lower t))) ≡ plain t
hex_back t h short = ap (λ r. bounded (hex_reading r)) (decode_of-encode_lower t h) ∙ within t short

pub text_reads_back : (kind : ValueKind) (t : List ℕ) → IsBytes t → IsCanonical kind t → canonical kind (text_spelling kind t) ≡ plain t
text_reads_back Str t bytes h = text_back t h.0 h.1
text_reads_back Bytes t bytes h = hex_back t bytes h
text_reads_back Int32 t bytes h = integer_back Int32 t h.0 h.1 (small_32 h.0 h.1) h.2
text_reads_back Int64 t bytes h = integer_back Int64 t h.0 h.1 (small_64 h.0 h.1) h.2

fits_32 : (z : ℤ) → is_in_range Int32 z ≡ true → SFits w32 z
fits_32 (pos n) h = record { sfits = ltb-true n (2 ^ 31) h }
fits_32 (negsuc n) h = record { sfits = ltb-true n (2 ^ 31) h }

unsigned_32 : (z : ℤ) → is_in_range Int32 z ≡ true → cast_unsigned w32 z < 2 ^ 32
unsigned_32 (pos n) h = let low = ltb-true n (2 ^ 31) h in omega arith
unsigned_32 (negsuc n) h = let low = ltb-true n (2 ^ 31) h in omega arith

unsigned_64 : (z : ℤ) → is_in_range Int64 z ≡ true → cast_unsigned w64 z < 2 ^ 64
unsigned_64 (pos n) h = let low = ltb-true n (2 ^ 63) h in omega arith
unsigned_64 (negsuc n) h = let low = ltb-true n (2 ^ 63) h in omega arith

signed_32 : (z : ℤ) → is_in_range Int32 z ≡ true → signed_of (to_be_bytes w32 (cast_unsigned w32 z)) ≡ z
signed_32 z h = ap (cast_signed w32) (from_be_bytes-to_be_bytes_4 (cast_unsigned w32 z) (unsigned_32 z h)) ∙ to_z-of_z w32 z (fits_32 z h)

signed_64 : (z : ℤ) → is_in_range Int64 z ≡ true → signed_of (to_be_bytes w64 (cast_unsigned w64 z)) ≡ z
signed_64 z h = ap (cast_signed w64) (from_be_bytes-to_be_bytes_8 (cast_unsigned w64 z) (unsigned_64 z h)) ∙ to_z-of_z w64 z (fits_from_range z h)

binary_32 : (t : List ℕ) (z : ℤ) → is_in_range Int32 z ≡ true → t ≡ signed_decimal z → canonical_binary Int32 0 (integer_bytes Int32 (signed_digits_value 10 t)) ≡ plain t
binary_32 t z h is =
    let means : signed_digits_value 10 t ≡ z = ap (signed_digits_value 10) is ∙ decimal_means z (small_32 z h) in
    ap (λ w. canonical_binary Int32 0 (integer_bytes Int32 w)) means ∙ (number_back Int32 z _ h (signed_32 z h) ∙ ap plain (sym is))

binary_64 : (t : List ℕ) (z : ℤ) → is_in_range Int64 z ≡ true → t ≡ signed_decimal z → canonical_binary Int64 0 (integer_bytes Int64 (signed_digits_value 10 t)) ≡ plain t
binary_64 t z h is =
    let means : signed_digits_value 10 t ≡ z = ap (signed_digits_value 10) is ∙ decimal_means z (small_64 z h) in
    ap (λ w. canonical_binary Int64 0 (integer_bytes Int64 w)) means ∙ (number_back Int64 z _ h (signed_64 z h) ∙ ap plain (sym is))

pub binary_reads_back : (kind : ValueKind) (t : List ℕ) → IsCanonical kind t → canonical_binary kind 0 (binary_spelling kind t) ≡ plain t
binary_reads_back Str t h = text_back t h.0 h.1
binary_reads_back Bytes t h = within t h
binary_reads_back Int32 t h = binary_32 t h.0 h.1 h.2
binary_reads_back Int64 t h = binary_64 t h.0 h.1 h.2
