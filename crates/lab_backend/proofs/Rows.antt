-- RowDescription and DataRow, as their items come.
use Rattle.std.proofs.Common.{◌≡◌, ℕ, ◌+◌, ◌-◌, ◌*◌, ◌<◌, ◌≤◌, ◌^◌, List, [], ◌∷◌, length, Option, arith, rules, length-append, lit<, zero, suc, negsuc, not, ◌&&◌, true, eqb, leb}
use Rattle.std.proofs.lemmas.Bool.{leb-true, false≢true}
use Rattle.std.proofs.lemmas.List.Elements.{All-cons, All-nil}
use Rattle.std.specs.List.{AllByRecursion, flat_map, list_all}
use Rattle.acra_base.specs.Names.{is_name}
use Rattle.acra_base.specs.declared.kind.ValueKind.{ValueKind}
use Rattle.acra_base.specs.declared.kind.ValueKind.TheVariants as kind
use Rattle.pg_wire.specs.declared.back.Field.{Field}
use Rattle.pg_wire.specs.declared.back.Back.TheVariants as backs
use Rattle.pg_wire.specs.Fronts.{IsText}
use Rattle.pg_wire.specs.Backs.{IsField, IsCell, field_bytes, cell_bytes}
use Rattle.machine_replies.specs.Replies.{IsWritable, oid_of, size_of}
use Rattle.lab_backend.specs.Described.{IsDescribed}
use Rattle.lab_backend.proofs.Texts.{ArePositive, IsText-from_positive, and-both}
use Rattle.lab_backend.proofs.Lengths.{length-field_bytes}

-- ---- columns

positive : (x : ℕ) → not (eqb x 0) ≡ true → 0 < x
positive zero h = absurd (false≢true h)
positive (suc x) h = omega arith

nonzero_positive : (xs : List ℕ) → list_all (λ b. not (eqb b 0)) xs ≡ true → ArePositive xs
nonzero_positive [] h = All-nil (λ x. 0 < x)
nonzero_positive (x ∷ xs) h =
    let both = and-both (not (eqb x 0)) (list_all (λ b. not (eqb b 0)) xs) h in
    All-cons (λ x. 0 < x) x xs (positive x both.0) (nonzero_positive xs both.1)

pub column_described : (name : List ℕ) (table attribute : ℕ) (k : ValueKind) → is_name name ≡ true → table < 2 ^ 32 → attribute < 2 ^ 16
    → IsDescribed (record { name = name; table = table; attribute = attribute; kind = oid_of k; size = size_of k; modifier = negsuc 0; format = 0 })
column_described name table attribute k h t a =
    let parts = and-both (leb 1 (length name) && leb (length name) 63) (list_all (λ b. not (eqb b 0)) name) h in
    let short = and-both (leb 1 (length name)) (leb (length name) 63) parts.0 in
    let text = IsText-from_positive name (nonzero_positive name parts.1) in
    let le = leb-true (length name) 63 short.1 in
    by k text le t a
  where
    by : (k : ValueKind) → IsText name → length name ≤ 63 → table < 2 ^ 32 → attribute < 2 ^ 16
        → IsDescribed (record { name = name; table = table; attribute = attribute; kind = oid_of k; size = size_of k; modifier = negsuc 0; format = 0 })
    by kind.Str text le t a = record { field = record { name = text; table = t; attribute = a; kind = lit< tt; size = search rules; modifier = search rules; format = lit< tt }; short = le }
    by kind.Bytes text le t a = record { field = record { name = text; table = t; attribute = a; kind = lit< tt; size = search rules; modifier = search rules; format = lit< tt }; short = le }
    by kind.Int32 text le t a = record { field = record { name = text; table = t; attribute = a; kind = lit< tt; size = search rules; modifier = search rules; format = lit< tt }; short = le }
    by kind.Int64 text le t a = record { field = record { name = text; table = t; attribute = a; kind = lit< tt; size = search rules; modifier = search rules; format = lit< tt }; short = le }

fields_are : (fields : List Field) → AllByRecursion IsDescribed fields → AllByRecursion IsField fields
fields_are [] h = tt
fields_are (f ∷ fields) h = (h.0.field, fields_are fields h.1)

fields_length : (fields : List Field) → AllByRecursion IsDescribed fields → length (flat_map field_bytes fields) ≤ 82 * length fields
fields_length [] h = omega arith
fields_length (f ∷ fields) h = simp length-append (omega (arith, length-field_bytes f, h.0.short, fields_length fields h.1))

pub fields-writable : (fields : List Field) → AllByRecursion IsDescribed fields → length fields ≤ 65535 → IsWritable (backs.Row fields)
fields-writable fields h le = record {
  spelled = (omega arith, fields_are fields h);
  short = simp length-append (omega (arith, fields_length fields h));
}

-- ---- cells

-- the cells so far and the bytes that they leave
pub record Leaves (cells : List (Option (List ℕ))) (left : ℕ) : Type 0 where
  pub each : AllByRecursion IsCell cells
  pub room : left + length (flat_map cell_bytes cells) ≡ 2 ^ 30 - 7
