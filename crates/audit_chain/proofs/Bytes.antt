-- The bytes of the words of a line: none is below the dash.
use Rattle.std.proofs.Common.{◌≡◌, ℕ, zero, suc, ◌+◌, ◌/◌, ◌%◌, ◌^◌, ◌<◌, ◌≤◌, ◌⊎◌, inl, inr, Bool, true, false, ◌&&◌, ◌||◌, not, List, [], ◌∷◌, ◌++◌, length, get_or, Option, Some, None, refl, sym, ap, subst, ◌∙◌, arith, lit≤}
use Rattle.std.specs.Prelude.{nat_le, nat_eq, ◌==◌, codes, IfSome, slice_index}
use Rattle.std.specs.List.{list_all}
use Rattle.std.specs.Fmt.{decimal}
use Rattle.std.proofs.lemmas.Fmt.{decimal_by_steps}
use Rattle.std.proofs.lemmas.Bool.{leb-true, eqb-true}
use Rattle.std.proofs.lemmas.List.Folds.{list_all-append}
use Rattle.hex.specs.Hex.{encode_with, lower_digits}
use Rattle.acra_base.specs.Client.{is_id_byte, IsClientId}
use Rattle.audit_chain.specs.Kinds.{kind_word}
use Rattle.audit_chain.specs.declared.kind.NoteKind.{NoteKind}
use Rattle.audit_chain.specs.declared.kind.NoteKind.TheVariants as kinds
use Rattle.audit_chain.specs.Details.{is_detail_byte, is_detail}
use Rattle.audit_chain.specs.Lines.{client_word}
use Rattle.audit_chain.proofs.Splitting.{both}

one_of : (a b : Bool) → (a || b) ≡ true → (a ≡ true) ⊎ (b ≡ true)
one_of true b h = inl refl
one_of false b h = inr h

pub list_all-weaker : (p q : ℕ → Bool) → ((b : ℕ) → p b ≡ true → q b ≡ true) → (xs : List ℕ) → list_all p xs ≡ true → list_all q xs ≡ true
list_all-weaker p q weaker [] h = refl
list_all-weaker p q weaker (x ∷ xs) h =
    let parts = both (p x) (list_all p xs) h in
    rw (weaker x parts.0) (list_all-weaker p q weaker xs parts.1)

pub list_all-by_index : (p : ℕ → Bool) (xs : List ℕ) → ((i : ℕ) → i < length xs → p (get_or xs i 0) ≡ true) → list_all p xs ≡ true
list_all-by_index p [] h = refl
list_all-by_index p (x ∷ xs) h = rw (h 0 (omega arith)) (list_all-by_index p xs (λ i lt. h (suc i) (omega arith)))

-- a test that passes only from the dash on
abbrev IsHigh : ℕ → Bool → Type 0
IsHigh b test = test ≡ true → 45 ≤ b

high_or : (b : ℕ) (s t : Bool) → IsHigh b s → IsHigh b t → IsHigh b (s || t)
high_or b s t p q h = elim (one_of s t h) [ inl x ↦ p x | inr x ↦ q x ]

high_range : (b low high : ℕ) → 45 ≤ low → IsHigh b (nat_le low b && nat_le b high)
high_range b low high least h = omega (arith, leb-true low b (both (nat_le low b) (nat_le b high) h).0)

high_one : (b x : ℕ) → 45 ≤ x → IsHigh b (b == x)
high_one b x least h = omega (arith, eqb-true b x h)

detail_byte_high : (b : ℕ) → is_detail_byte b ≡ true → 45 ≤ b
detail_byte_high b =
    high_or b _ _ (high_or b _ _ (high_or b _ _ (high_or b _ _ (high_range b 97 122 (lit≤ tt)) (high_range b 65 90 (lit≤ tt))) (high_range b 48 57 (lit≤ tt))) (high_one b 46 (lit≤ tt))) (high_one b 45 (lit≤ tt))

id_byte_high : (b : ℕ) → is_id_byte b ≡ true → 45 ≤ b
id_byte_high b = high_or b _ _ (high_or b _ _ (high_range b 97 122 (lit≤ tt)) (high_range b 48 57 (lit≤ tt))) (high_one b 95 (lit≤ tt))

-- a test that each byte from the dash on passes, and the zero byte
module _ (p : ℕ → Bool) (high : (b : ℕ) → 45 ≤ b → p b ≡ true) (none : p 0 ≡ true) where
  all_high : (xs : List ℕ) → list_all (nat_le 45) xs ≡ true → list_all p xs ≡ true
  all_high xs h = list_all-weaker (nat_le 45) p (λ b e. high b (leb-true 45 b e)) xs h

  pub kind_passes : (kind : NoteKind) → list_all p (kind_word kind) ≡ true
  kind_passes kinds.Start = all_high (kind_word kinds.Start) refl
  kind_passes kinds.Deny = all_high (kind_word kinds.Deny) refl
  kind_passes kinds.Refuse = all_high (kind_word kinds.Refuse) refl
  kind_passes kinds.Rotate = all_high (kind_word kinds.Rotate) refl
  kind_passes kinds.Sweep = all_high (kind_word kinds.Sweep) refl
  kind_passes kinds.Retire = all_high (kind_word kinds.Retire) refl
  kind_passes kinds.Settle = all_high (kind_word kinds.Settle) refl
  kind_passes kinds.Close = all_high (kind_word kinds.Close) refl

  pub client_passes : (client : Option (List ℕ)) → IfSome client IsClientId → list_all p (client_word client) ≡ true
  client_passes None h = all_high (45 ∷ []) refl
  client_passes (Some text) h = list_all-by_index p text (λ i lt. high (get_or text i 0) (id_byte_high (get_or text i 0) (h.each i lt)))

  pub detail_passes : (text : List ℕ) → is_detail text ≡ true → list_all p text ≡ true
  detail_passes text h =
      list_all-weaker is_detail_byte p (λ b e. high b (detail_byte_high b e)) text (both (nat_le 1 (length text) && nat_le (length text) 64) (list_all is_detail_byte text) h).1

  pub number_passes : (n : ℕ) → n < 2 ^ 64 → list_all p (decimal n) ≡ true
  number_passes = decimal_by_steps (λ n ds. list_all p ds ≡ true) (λ n lt. rw (high (48 + n) (omega arith)) refl)
      (λ n ds le h. list_all-append p ds ((48 + n % 10) ∷ []) ∙ rw (h, high (48 + n % 10) (omega arith)) refl)

  digit_passes : (table : List ℕ) → list_all p table ≡ true → (i : ℕ) → p (slice_index table i) ≡ true
  digit_passes [] all i = none
  digit_passes (x ∷ xs) all zero = (both (p x) (list_all p xs) all).0
  digit_passes (x ∷ xs) all (suc i) = digit_passes xs (both (p x) (list_all p xs) all).1 i

  pub digits_pass : (bytes : List ℕ) → list_all p (encode_with lower_digits bytes) ≡ true
  unfolding encode_with
  digits_pass [] = refl
  digits_pass (b ∷ bytes) =
      let table : list_all p lower_digits ≡ true = all_high lower_digits refl in
      rw (digit_passes lower_digits table (b / 16), digit_passes lower_digits table (b % 16)) (digits_pass bytes)
