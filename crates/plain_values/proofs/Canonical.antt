-- What reading gives is canonical.
use Rattle.std.proofs.Common.{◌≡◌, ◌≤◌, ◌==◌, ℕ, List, [], length, drop, Bool, true, false, refl, sym, ap, ◌∙◌, inl, inr, true≢false, nat_le, if◌then◌else◌, ℤ, Result, Ok, Err}
use Rattle.std.proofs.lemmas.Bool.{cases_Bool, cond-true, cond-false, leb-true}
use Rattle.std.specs.Fmt.{signed_decimal}
use Rattle.std.specs.Str.Parse.{signed_digits_value}
use Rattle.plain_values.specs.Values.{Reading, plain, bad, out_of_range, too_long, most_plain, within_bound, bounded, text_reading, bytes_reading, is_plain_text, is_in_range, number_reading, trim_spaces, is_integer_text, integer_reading, is_text_type, binary_size, signed_of, binary_reading, canonical, canonical_binary, IsCanonical}
use Rattle.acra_base.specs.declared.kind.ValueKind.{ValueKind}
use Rattle.acra_base.specs.declared.kind.ValueKind.TheVariants.{Str, Bytes, Int32, Int64}

-- a reading that gives a plaintext, and which
abbrev gives : Reading → Bool
gives (plain t) = true
gives bad = false
gives out_of_range = false
gives too_long = false

abbrev given : Reading → List ℕ
given (plain t) = t
given bad = []
given out_of_range = []
given too_long = []

-- a reading that gives nothing gives no plaintext
nothing : {A : Type 0} (r : Reading) (p : List ℕ) → gives r ≡ false → r ≡ plain p → A
nothing r p none h = absurd (true≢false (sym (ap gives h) ∙ none))

-- of two readings, the one that was taken
taken : {A : Type 0} (b : Bool) (r s : Reading) (p : List ℕ) → gives s ≡ false → (if b then r else s) ≡ plain p → (b ≡ true → r ≡ plain p → A) → A
taken true r s p none h then_so = then_so refl h
taken false r s p none h then_so = nothing s p none h

record IsBounded (t p : List ℕ) : Type 0 where
  same : p ≡ t
  most : length p ≤ most_plain

within : (t p : List ℕ) → within_bound t ≡ plain p → IsBounded t p
within t p h = taken (nat_le (length t) most_plain) (plain t) too_long p refl h (λ low e.
    let same : p ≡ t = sym (ap given e) in
    record { same = same; most = rw same (leb-true (length t) most_plain low) })

-- what was read within the bound
read_within : {A : Type 0} (r : Reading) (p : List ℕ) → bounded r ≡ plain p → ((t : List ℕ) → r ≡ plain t → IsBounded t p → A) → A
read_within (plain t) p h so = so t refl (within t p h)
read_within bad p h so = nothing bad p refl h
read_within out_of_range p h so = nothing out_of_range p refl h
read_within too_long p h so = nothing too_long p refl h

text_canonical : (t p : List ℕ) → bounded (text_reading t) ≡ plain p → IsCanonical Str p
text_canonical t p h = read_within (text_reading t) p h (λ u read short. taken (is_plain_text t) (plain t) bad u refl read (λ text e.
    let same : t ≡ p = ap given e ∙ sym short.same in
    (rw (sym same) text, short.most)))

bytes_canonical : (t p : List ℕ) → bounded (bytes_reading t) ≡ plain p → IsCanonical Bytes p
bytes_canonical t p h = read_within (bytes_reading t) p h (λ u read short. short.most)

-- a canonical number
abbrev IsDecimal : ValueKind → List ℕ → Type 0
IsDecimal kind p = (z : ℤ) × (is_in_range kind z ≡ true) × (p ≡ signed_decimal z)

number_canonical : (kind : ValueKind) (z : ℤ) (p : List ℕ) → number_reading kind z ≡ plain p → IsDecimal kind p
number_canonical kind z p h = taken (is_in_range kind z) (plain (signed_decimal z)) out_of_range p refl h (λ within e. (z, within, sym (ap given e)))

integer_canonical : (kind : ValueKind) (t p : List ℕ) → integer_reading kind t ≡ plain p → IsDecimal kind p
integer_canonical kind t p h =
    taken (is_integer_text (trim_spaces t)) (number_reading kind (signed_digits_value 10 (trim_spaces t))) bad p refl h (λ _ e. number_canonical kind _ p e)

binary_canonical : (kind : ValueKind) (declared : ℕ) (t p : List ℕ) → binary_reading kind declared t ≡ plain p → IsDecimal kind p
binary_canonical kind declared t p h = elim (cases_Bool (is_text_type declared)) [
  | inl text ↦ integer_canonical kind t p (sym (cond-true (is_text_type declared) _ _ text) ∙ h)
  | inr other ↦ taken (length t == binary_size kind declared) (number_reading kind (signed_of t)) bad p refl (sym (cond-false (is_text_type declared) _ _ other) ∙ h)
      (λ _ e. number_canonical kind _ p e)
]

pub text_is_canonical : (kind : ValueKind) (t p : List ℕ) → canonical kind t ≡ plain p → IsCanonical kind p
text_is_canonical Str t p h = text_canonical t p h
text_is_canonical Bytes t p h = bytes_canonical t p h
text_is_canonical Int32 t p h = integer_canonical Int32 t p h
text_is_canonical Int64 t p h = integer_canonical Int64 t p h

pub binary_is_canonical : (kind : ValueKind) (declared : ℕ) (t p : List ℕ) → canonical_binary kind declared t ≡ plain p → IsCanonical kind p
binary_is_canonical Str declared t p h = text_canonical t p h
binary_is_canonical Bytes declared t p h = (within t p h).most
binary_is_canonical Int32 declared t p h = binary_canonical Int32 declared t p h
binary_is_canonical Int64 declared t p h = binary_canonical Int64 declared t p h
