-- The text of an integer.
use Rattle.std.proofs.Common.{◌≡◌, ◌<◌, ◌==◌, ℕ, List, [], ◌∷◌, true, false, arith, ℤ, pos, negsuc, inl, inr}
use Rattle.std.specs.Char.{is_ascii_digit}
use Rattle.std.specs.Str.{all_ascii_digits, IsAscii, IsUtf8}
use Rattle.std.specs.Str.Parse.{without_leading_sign, digits_value, signed_digits_value, IsNumeral}
use Rattle.std.proofs.lemmas.Bool.{and_parts, cases_Bool, ltb-true, eqb-true, false_from_ne_true}
use Rattle.std.proofs.lemmas.Bool.Decides.{nat_tests}
use Rattle.std.proofs.lemmas.Str.{IsUtf8-from_ascii}
use Rattle.std.proofs.lemmas.Str.Ascii.{IsAscii-cons, IsAscii-nil}
use Rattle.std.proofs.lemmas.Str.Parse.{numerals_by_value, tells_all_ascii_digits, IsNumeralModel}
use mir.Syntax.{w64}
use mir.Val.{SFits}
use Rattle.plain_values.specs.Values.{is_integer_text, is_in_range}
use Rattle.acra_base.specs.declared.kind.ValueKind.TheVariants.{Int64}

digit_ascii : (c : ℕ) (cs : List ℕ) → all_ascii_digits (c ∷ cs) ≡ true → c < 128
digit_ascii c cs h = let d : is_ascii_digit c ≡ true = (and_parts (is_ascii_digit c) (all_ascii_digits cs) h).0 in grind (arith, nat_tests, d)

pub digits_ascii : (cs : List ℕ) → all_ascii_digits cs ≡ true → IsAscii cs
digits_ascii [] h = IsAscii-nil
digits_ascii (c ∷ cs) h = IsAscii-cons c cs (digit_ascii c cs h) (digits_ascii cs (and_parts (is_ascii_digit c) (all_ascii_digits cs) h).1)

sign_ascii : (c : ℕ) (cs : List ℕ) → all_ascii_digits (without_leading_sign (c ∷ cs)) ≡ true → IsAscii (c ∷ cs)
sign_ascii c cs h = elim (cases_Bool (c == 45)) [
  | inl minus ↦ IsAscii-cons c cs (let e = eqb-true c 45 minus in omega arith) (digits_ascii cs (rw minus at h))
  | inr other ↦ elim (cases_Bool (c == 43)) [
    | inl plus ↦ IsAscii-cons c cs (let e = eqb-true c 43 plus in omega arith) (digits_ascii cs (rw (other, plus) at h))
    | inr none ↦ digits_ascii (c ∷ cs) (rw (other, none) at h)
  ]
]

signed_ascii : (t : List ℕ) → all_ascii_digits (without_leading_sign t) ≡ true → IsAscii t
signed_ascii [] h = IsAscii-nil
signed_ascii (c ∷ cs) h = sign_ascii c cs h

pub integer_utf8 : (t : List ℕ) → is_integer_text t ≡ true → IsUtf8 t
integer_utf8 t h = IsUtf8-from_ascii t (signed_ascii t (and_parts _ _ h).1)

pub model : IsNumeralModel (λ ds. all_ascii_digits ds ≡ true) (digits_value 10)
model = numerals_by_value _ tells_all_ascii_digits

pub integer_numeral : (t : List ℕ) → is_integer_text t ≡ true → IsNumeral 10 (without_leading_sign t)
integer_numeral t h = let parts = and_parts _ _ h in (ltb-true _ _ parts.0, model.to (without_leading_sign t) parts.1)

pub fits_from_range : (z : ℤ) → is_in_range Int64 z ≡ true → SFits w64 z
fits_from_range (pos n) h = record { sfits = ltb-true n _ h }
fits_from_range (negsuc n) h = record { sfits = ltb-true n _ h }

-- a text that isn't read at 64 bits is out of their range
pub beyond : (t u : List ℕ) → u ≡ t → is_integer_text t ≡ true → (IsNumeral 10 (without_leading_sign u) × SFits w64 (signed_digits_value 10 u) → ⊥)
    → is_in_range Int64 (signed_digits_value 10 t) ≡ false
beyond t u same h unread =
    let read : IsNumeral 10 (without_leading_sign t) × SFits w64 (signed_digits_value 10 t) → ⊥ = rw same at unread in
    false_from_ne_true _ (λ e. read (integer_numeral t h, fits_from_range _ e))
