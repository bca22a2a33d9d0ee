-- A number's text is canonical exactly where it is the number's decimal spelling.
use Rattle.std.proofs.Common.{◌≡◌, ℕ, ℤ, List, true, Err, sym, ◌∙◌, true≢false}
use Rattle.std.specs.Fmt.{signed_decimal}
use Rattle.acra_base.specs.declared.kind.ValueKind.{ValueKind}
use Rattle.acra_base.specs.declared.kind.ValueKind.TheVariants as kinds
use Rattle.plain_values.specs.declared.refusal.ValueRefusal.{ValueRefusal}
use Rattle.plain_values.specs.declared.refusal.ValueRefusal.TheVariants as refusal
use Rattle.plain_values.specs.Values.{Reading, is_in_range, plain, bad, out_of_range, IsCanonical, is_integer, integer_reading}
use Rattle.plain_values.specs.Answers.{IsNumber}
use Rattle.plain_values.proofs.Canonical.{text_is_canonical}
use Rattle.plain_values.proofs.Spelled.{text_reads_back, is_number}
use Rattle.plain_values.proofs.Integers.{fits_from_range}
use Rattle.std.specs.Str.Parse.{signed_digits_value}
use Rattle.std.proofs.Common.{to_z, of_z, w64, subst}
use Rattle.std.proofs.lemmas.Int.{to_z-of_z}
use Rattle.byte_reader.proofs.Taken.{IsBytes}

-- what is read of a number's text, canonical
pub read_canonical : (kind : ValueKind) (t p : List ℕ) → is_integer kind ≡ true → integer_reading kind t ≡ plain p → IsCanonical kind p
read_canonical kinds.Str t p i e = absurd (true≢false (sym i))
read_canonical kinds.Bytes t p i e = absurd (true≢false (sym i))
read_canonical kinds.Int32 t p i e = text_is_canonical kinds.Int32 t p e
read_canonical kinds.Int64 t p i e = text_is_canonical kinds.Int64 t p e

-- a canonical text is read as it is
pub canonical_read : (kind : ValueKind) (t : List ℕ) → IsBytes t → is_integer kind ≡ true → IsCanonical kind t → integer_reading kind t ≡ plain t
canonical_read kinds.Str t fits i h = absurd (true≢false (sym i))
canonical_read kinds.Bytes t fits i h = absurd (true≢false (sym i))
canonical_read kinds.Int32 t fits i h = text_reads_back kinds.Int32 t fits h
canonical_read kinds.Int64 t fits i h = text_reads_back kinds.Int64 t fits h

pub plain_same : (a b : List ℕ) → plain a ≡ plain b → a ≡ b
plain_same a b e = cc

pub no_number : (r : Reading) (why : ValueRefusal) (t : List ℕ) → IsNumber r (Err why) → r ≡ plain t → ⊥
no_number r refusal.Bad t h e = (let both : bad ≡ plain t = sym h ∙ e in cc)
no_number r refusal.Range t h e = (let both : out_of_range ≡ plain t = sym h ∙ e in cc)
no_number r refusal.TooLong t h e = h
no_number r refusal.NoMemory t h e = h

-- a number that was read has 64 bits
pub number_fits : (kind : ValueKind) (n : ℤ) → is_integer kind ≡ true → IsCanonical kind (signed_decimal n) → signed_digits_value 10 (signed_decimal n) ≡ n → to_z w64 (of_z w64 n) ≡ n
number_fits kind n i h means = to_z-of_z w64 n (fits_from_range n (subst (λ (z : ℤ). is_in_range kinds.Int64 z ≡ true) means ((is_number kind (signed_decimal n) h i).wide)))
