-- Why a record is not the next one.
use Rattle.std.proofs.Common.{◌≡◌, ℕ, List, length, Option, Some, None, Ok, refl, sym, ap, subst, ◌∙◌, arith}
use Rattle.token_rule.specs.Rule.{Want, token_start}
use Rattle.token_rule.specs.Entries.{IsFirstFree}
use Rattle.token_records.specs.declared.record.Record.{Record}
use Rattle.token_records.specs.Records.{IsRecord, ReadsAs}
use Rattle.token_store.specs.Stores.{Store, standing_in}
use Rattle.token_store.specs.Loading.{IsNextRecord}
use Rattle.token_store.proofs.Firsts.{one_first_free}

module _ (sealed : List ℕ → List ℕ → List ℕ → List ℕ → List ℕ) (s : Store) (piece : List ℕ) (o : Option Record) (key : List ℕ) (is_key : key ≡ s.store_key)
    (only : (w : Want) (n t : ℕ) → IsRecord sealed key piece w n t → ReadsAs (Ok o) w n t) where
  read : (next : Store) (n : IsNextRecord sealed s next piece) → ReadsAs (Ok o) n.want (length s.entries) n.token
  read next n = only n.want (length s.entries) n.token (subst (λ (k : List ℕ). IsRecord sealed k piece n.want (length s.entries) n.token) (sym is_key) n.spelled)

  no_record : (o ≡ None) → (next : Store) → IsNextRecord sealed s next piece → ⊥
  no_record e next n = subst (λ (p : Option Record). ReadsAs (Ok p) n.want (length s.entries) n.token) e (read next n)

  pub none_next : ((r : Record) → o ≡ Some r → ⊥) → (next : Store) → IsNextRecord sealed s next piece → ⊥
  none_next not next n = no_record (is_none o not) next n
    where
      is_none : (p : Option Record) → ((r : Record) → p ≡ Some r → ⊥) → p ≡ None
      is_none None h = refl
      is_none (Some r) h = absurd (h r refl)

  module _ (r : Record) (found : o ≡ Some r) where
    same : (next : Store) (n : IsNextRecord sealed s next piece) → (r.want ≡ n.want) × (r.serial ≡ length s.entries) × (r.token ≡ n.token)
    same next n = subst (λ (p : Option Record). ReadsAs (Ok p) n.want (length s.entries) n.token) found (read next n)

    pub full_next : length s.entries ≡ s.limit → (next : Store) → IsNextRecord sealed s next piece → ⊥
    full_next full next n = omega (arith, full, n.room)

    pub standing_next : (standing_in s r.want ≡ None → ⊥) → (next : Store) → IsNextRecord sealed s next piece → ⊥
    standing_next some next n = some (ap (standing_in s) (same next n).0 ∙ n.new)

    pub serial_next : (r.serial ≡ length s.entries → ⊥) → (next : Store) → IsNextRecord sealed s next piece → ⊥
    serial_next other next n = other (same next n).1

    pub token_next : (free : ℕ) → r.serial ≡ length s.entries → IsFirstFree s.entries r.want.kind (token_start s.token_key r.want r.serial) free → (free ≡ r.token → ⊥) → (next : Store) → IsNextRecord sealed s next piece → ⊥
    token_next free serial first other next n =
        let is = same next n in
        let at : IsFirstFree s.entries n.want.kind (token_start s.token_key n.want (length s.entries)) free =
        subst (λ (w : Want). IsFirstFree s.entries w.kind (token_start s.token_key w (length s.entries)) free) is.0 (subst (λ (k : ℕ). IsFirstFree s.entries r.want.kind (token_start s.token_key r.want k) free) serial first) in
        other (one_first_free s.entries n.want.kind (token_start s.token_key n.want (length s.entries)) free n.token at n.makes.next ∙ sym is.2)
