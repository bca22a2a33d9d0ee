use Rattle.std.proofs.Common.{◌≡◌, ◌↔◌, IsTrue, sym, ap, subst, ◌∙◌, arith, rules, to_z, of_z, w64}
use Rattle.std.specs.Fmt.{signed_decimal}
use Rattle.plain_values.specs.Values.{IsCanonical, integer_reading, plain}
use Rattle.token_records.proofs.Values.{read_canonical, canonical_read, plain_same, no_number, number_fits}
use Rattle.token_records.proofs.value.is_number.Goals as goal

pub returns-in-Ok : goal.returns-in-Ok
returns-in-Ok c =
    let text = c.args.plain.now in
    let n = c.in-Ok.number in
    let read : integer_reading c.args.kind text ≡ plain (signed_decimal n) = c.in-Ok.ensures.read in
    let can : IsCanonical c.args.kind (signed_decimal n) = read_canonical c.args.kind text (signed_decimal n) c.requires read in
    let same : signed_decimal (to_z w64 (of_z w64 n)) ≡ signed_decimal n = ap signed_decimal (number_fits c.args.kind n c.requires can c.in-Ok.ensures.means) in
    let is : IsTrue c.is_decimal.result ↔ (text ≡ signed_decimal (to_z w64 (of_z w64 n))) = c.is_decimal.ensures in (
      (λ h. subst (IsCanonical c.args.kind) (sym (is.0 h ∙ same)) can),
      λ h. is.1 (plain_same text (signed_decimal n) (sym (canonical_read c.args.kind text (λ i. let b = c.type_inv.plain i in omega arith) c.requires h) ∙ read) ∙ sym same),
    )

pub returns-in-Err : goal.returns-in-Err
returns-in-Err c = (
  (λ h. absurd (search rules)),
  λ h. absurd (no_number _ c.in-Err.field-0 c.args.plain.now c.in-Err.ensures.read (canonical_read c.args.kind c.args.plain.now (λ i. let b = c.type_inv.plain i in omega arith) c.requires h)),
)
