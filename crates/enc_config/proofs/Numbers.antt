-- The rules by their numbers.
use Rattle.std.proofs.Common.{◌≡◌, ◌<◌, ◌≤◌, ◌==◌, inl, inr, ℕ, List, take, Bool, true, false, refl, ◌∙◌, arith, Option, Some, None, nat_lt, nat_le}
use Rattle.std.proofs.lemmas.Bool.{cases_lt, ne_eqb, leb-true, ltb-true, cond-false}
use Rattle.std.specs.Option.{option_map_or}
use Rattle.std.specs.List.{slice_get}
use Rattle.enc_config.specs.declared.texts.EntryText.{EntryText}
use Rattle.enc_config.specs.declared.texts.SchemaText.{SchemaText}
use Rattle.json_rules.specs.declared.place.Place.{Place}
use Rattle.json_rules.specs.declared.place.Place.TheVariants.{Text, Entry, Part}
use Rattle.enc_config.specs.Rules.{breaks, tests, entry_breaks, schema_breaks}
use Rattle.enc_config.specs.Searched.{entry_at}

pub never : {X : Type 0} (f : X → Bool) (o : Option X) → ((x : X) → f x ≡ false) → option_map_or f o false ≡ false
never f None h = refl
never f (Some x) h = h x

module _ (r : ℕ) (apart : (n : ℕ) → 2 ≤ n → n < 15 → (r == n) ≡ false) where
  is_not : (n : ℕ) → nat_le 2 n ≡ true → nat_lt n 15 ≡ true → (r == n) ≡ false
  is_not n low high = apart n (leb-true 2 n low) (ltb-true n 15 high)

  no_schema : (earlier : List SchemaText) (s : SchemaText) → schema_breaks r earlier s ≡ false
  no_schema earlier s = rw (is_not 2 refl refl, is_not 3 refl refl, is_not 4 refl refl, is_not 5 refl refl, is_not 6 refl refl, is_not 8 refl refl) refl

  no_entry : (s : SchemaText) (earlier : List EntryText) (e : EntryText) → entry_breaks r s earlier e ≡ false
  no_entry s earlier e =
      rw (is_not 3 refl refl, is_not 5 refl refl, is_not 6 refl refl, is_not 8 refl refl, is_not 9 refl refl, is_not 10 refl refl, is_not 11 refl refl, is_not 12 refl refl, is_not 13 refl refl, is_not 14 refl refl) refl

  -- a number that is no rule's is not broken
  no_test : (ss : List SchemaText) (q : Place) → tests ss r q ≡ false
  no_test ss Text = rw (is_not 2 refl refl) refl
  no_test ss (Part i) = never (schema_breaks r (take i ss)) (slice_get ss i) (no_schema (take i ss))
  no_test ss (Entry i j) = never (λ s. entry_at r s j) (slice_get ss i) (λ s. never (entry_breaks r s (take j s.entries)) (slice_get s.entries j) (no_entry s (take j s.entries)))

  no_rule : (ss : List SchemaText) (q : Place) → breaks ss r q ≡ false
  no_rule ss q = cond-false (r == 7) _ _ (is_not 7 refl refl) ∙ no_test ss q

pub low_rules : (ss : List SchemaText) (r : ℕ) → r < 2 → (q : Place) → breaks ss r q ≡ false
low_rules ss r h = no_rule r (λ n low high. ne_eqb r n (λ same. absurd (omega arith))) ss

pub all_rules : (ss : List SchemaText) (n : ℕ) → 15 ≤ n → ((r : ℕ) → r < n → (q : Place) → breaks ss r q ≡ false) → (r : ℕ) (q : Place) → breaks ss r q ≡ false
all_rules ss n end below r = elim (cases_lt r n) [
  | inl low ↦ below r low
  | inr high ↦ no_rule r (λ k low last. ne_eqb r k (λ same. absurd (omega arith))) ss
]
