-- A server's message that is read is spelled so, and what is spelled so is read.
use Rattle.std.proofs.Common.{◌≡◌, ℕ, suc, ◌^◌, ◌<◌, Bool, true, false, cond, eqb, ◌||◌, List, [], ◌∷◌, ◌++◌, length, Result, Ok, Err, refl, sym, ap, subst, ◌∙◌, arith, inl, inr}
use Rattle.std.specs.Int.{w32, to_be_bytes}
use Rattle.std.proofs.lemmas.Bool.{eqb-true, or_cases}
use Rattle.std.proofs.lemmas.List.{append-nil}
use Rattle.pg_wire.specs.declared.back.Back.{Back}
use Rattle.pg_wire.specs.declared.back.Back.TheVariants as backs
use Rattle.byte_reader.proofs.Widths.{be_wide32, number_takes, number_again}
use Rattle.byte_reader.proofs.Steps.{bind_ok, ok_is}
use Rattle.byte_reader.proofs.Taken.{IsBytes, Takes, Takes-then}
use Rattle.byte_reader.proofs.Texts.{str_takes, str_again}
use Rattle.byte_reader.specs.Fields.{str, ◌>>=◌, be_number_at, str_at, alone}
use Rattle.pg_wire.specs.Parts.{pair_bytes, IsWord, IsCell, cell_bytes, counted_items, listed_items}
use Rattle.pg_wire.specs.Backs.{IsField, field_bytes, IsErrorField, error_bytes, IsState, IsBack, back_kind, back_body}
use Rattle.pg_wire.specs.Reading.{SpellsBack}
use Rattle.pg_wire.specs.Bodies.{pair_at, field_at, cell_at, error_at, state_at, counted_at, listed_at, auth_at, key_data_at, back_at, back_read}
use Rattle.pg_wire.proofs.Texts.{pair_takes, pair_again}
use Rattle.pg_wire.proofs.Items.{counted_takes, counted_again, listed_takes, listed_again}
use Rattle.pg_wire.proofs.RowLaws.{field_item, word_item, cell_item, error_item}
use Rattle.pg_wire.proofs.Arms.{Arm, arm_or, no_arm, arm_of, whole, read_alone, made_alone}

abbrev BackArm : ℕ → List ℕ → Result (Back × List ℕ) ℕ → Type 0
BackArm = Arm Back IsBack back_kind back_body

auth_arm : (body : List ℕ) → IsBytes body → BackArm 82 body (auth_at body)
unfolding auth_at
auth_arm body fits = record { spells = by } where
  by : (x : Back × List ℕ) → (be_number_at w32 body >>= λ code. Ok (backs.Auth code.0 code.1, [])) ≡ Ok x → IsBack x.0 × (82 ≡ back_kind x.0) × Takes body (back_body x.0) x.1
  by x e =
      let a = bind_ok (be_number_at w32 body) (λ code. Ok (backs.Auth code.0 code.1, [])) x e in
      let t = number_takes w32 (2 ^ 32) be_wide32 body a.0 fits a.1 in
      let all : Takes body (to_be_bytes w32 a.0.0 ++ a.0.1) [] = record { parts = t.0.parts ∙ sym (append-nil _); rest_fits = λ i. omega arith } in
      subst (λ (y : Back × List ℕ). IsBack y.0 × (82 ≡ back_kind y.0) × Takes body (back_body y.0) y.1) (ok_is (backs.Auth a.0.0 a.0.1, []) x a.2) (t.1, refl, all)

key_data_arm : (body : List ℕ) → IsBytes body → BackArm 75 body (key_data_at body)
unfolding key_data_at
key_data_arm body fits = record { spells = by } where
  by : (x : Back × List ℕ) → (be_number_at w32 body >>= λ process. be_number_at w32 process.1 >>= λ key. Ok (backs.KeyData process.0 key.0, key.1)) ≡ Ok x → IsBack x.0 × (75 ≡ back_kind x.0) × Takes body (back_body x.0) x.1
  by x e =
      let a = bind_ok (be_number_at w32 body) (λ process. be_number_at w32 process.1 >>= λ key. Ok (backs.KeyData process.0 key.0, key.1)) x e in
      let b = bind_ok (be_number_at w32 a.0.1) (λ key. Ok (backs.KeyData a.0.0 key.0, key.1)) x a.2 in
      let t = number_takes w32 (2 ^ 32) be_wide32 body a.0 fits a.1 in
      let u = number_takes w32 (2 ^ 32) be_wide32 a.0.1 b.0 t.0.rest_fits b.1 in
      let all = Takes-then body (to_be_bytes w32 a.0.0) a.0.1 (to_be_bytes w32 b.0.0) b.0.1 t.0 u.0 in
      subst (λ (y : Back × List ℕ). IsBack y.0 × (75 ≡ back_kind y.0) × Takes body (back_body y.0) y.1) (ok_is (backs.KeyData a.0.0 b.0.0, b.0.1) x b.2) ((t.1, u.1), refl, all)

abbrev is_state : ℕ → Bool
is_state b = (eqb b 73 || eqb b 84) || eqb b 69

state_of : (b : ℕ) → is_state b ≡ true → IsState b
state_of b e =
    elim (or_cases (eqb b 73 || eqb b 84) (eqb b 69) e) [
      | inl h ↦ elim (or_cases (eqb b 73) (eqb b 84) h) [ inl i ↦ inl (eqb-true _ _ i) | inr i ↦ inr (inl (eqb-true _ _ i)) ]
      | inr h ↦ inr (inr (eqb-true _ _ h))
    ]

pub state_takes : (body : List ℕ) (x : ℕ × List ℕ) → IsBytes body → state_at body ≡ Ok x → IsState x.0 × Takes body (x.0 ∷ []) x.1
unfolding state_at
state_takes [] x fits e = absurd cc
state_takes (b ∷ body) x fits e = by (is_state b) (state_of b) e where
  by : (t : Bool) → (t ≡ true → IsState b) → cond t (Ok (b, body)) (Err (length (b ∷ body))) ≡ Ok x → IsState x.0 × Takes (b ∷ body) (x.0 ∷ []) x.1
  by true is h = subst (λ (y : ℕ × List ℕ). IsState y.0 × Takes (b ∷ body) (y.0 ∷ []) y.1) (ok_is (b, body) x h) (is refl, record { parts = refl; rest_fits = λ i. fits (suc i) })
  by false is h = absurd cc

-- a message without a body
empty_arm : (k : ℕ) (m : Back) (body : List ℕ) → IsBytes body → IsBack m → k ≡ back_kind m → back_body m ≡ [] → BackArm k body (Ok (m, body))
empty_arm k m body fits is kind none =
    let all : Takes body (back_body m) body = rw none (record { parts = refl; rest_fits = fits }) in
    record { spells = λ x e. subst (λ (y : Back × List ℕ). IsBack y.0 × (k ≡ back_kind y.0) × Takes body (back_body y.0) y.1) (ok_is (m, body) x e) (is, kind, all) }

back_arms : (kind : ℕ) (body : List ℕ) → IsBytes body → BackArm kind body (back_at kind body)
back_arms kind body fits =
    arm_or (auth_arm body fits)
    (arm_or (arm_of 83 body backs.Status (pair_at body) (λ x e. let t = pair_takes body x fits e in (t.1, refl, t.0)))
    (arm_or (key_data_arm body fits)
    (arm_or (arm_of 90 body backs.Ready (state_at body) (λ x e. let t = state_takes body x fits e in (t.0, refl, t.1)))
    (arm_or (arm_of 84 body backs.Row (counted_at field_at body) (λ x e. let t = counted_takes field_at field_bytes IsField field_item body x fits e in (t.1, refl, t.0)))
    (arm_or (arm_of 68 body backs.Cells (counted_at cell_at body) (λ x e. let t = counted_takes cell_at cell_bytes IsCell cell_item body x fits e in (t.1, refl, t.0)))
    (arm_or (arm_of 67 body backs.Complete (str_at body) (λ x e. let t = str_takes body x fits e in (t.1, refl, t.0)))
    (arm_or (arm_of 69 body backs.Error (listed_at error_at body) (λ x e. let t = listed_takes error_at error_bytes IsErrorField error_item body x fits e in (t.1, refl, t.0)))
    (arm_or (empty_arm 73 backs.EmptyQuery body fits tt refl refl)
    (arm_or (arm_of 78 body backs.Notice (listed_at error_at body) (λ x e. let t = listed_takes error_at error_bytes IsErrorField error_item body x fits e in (t.1, refl, t.0)))
    (arm_or (empty_arm 49 backs.ParseDone body fits tt refl refl)
    (arm_or (empty_arm 50 backs.BindDone body fits tt refl refl)
    (arm_or (empty_arm 51 backs.CloseDone body fits tt refl refl)
    (arm_or (empty_arm 110 backs.NoData body fits tt refl refl)
    (arm_or (arm_of 116 body backs.Params (counted_at (be_number_at w32) body) (λ x e. let t = counted_takes (be_number_at w32) (to_be_bytes w32) IsWord word_item body x fits e in (t.1, refl, t.0)))
    (arm_or (empty_arm 115 backs.Suspended body fits tt refl refl)
    no_arm)))))))))))))))

-- what is read is spelled so
pub back_spelled : (kind : ℕ) (body : List ℕ) (m : Back) → IsBytes body → back_read kind body ≡ Ok m → SpellsBack kind body m
unfolding back_read
back_spelled kind body m fits e = whole (back_arms kind body fits) m e

state_again : (b : ℕ) → IsState b → state_at (b ∷ []) ≡ Ok (b, [])
unfolding state_at
state_again b (inl e) = rw e refl
state_again b (inr (inl e)) = rw e refl
state_again b (inr (inr e)) = rw e refl

auth_again : (code : ℕ) (rest : List ℕ) → code < 2 ^ 32 → auth_at (to_be_bytes w32 code ++ rest) ≡ Ok (backs.Auth code rest, [])
unfolding auth_at
auth_again code rest lt = ap (λ (r : Result (ℕ × List ℕ) ℕ). r >>= λ code. Ok (backs.Auth code.0 code.1, [])) (number_again w32 (2 ^ 32) be_wide32 code rest lt)

key_data_again : (process key : ℕ) → process < 2 ^ 32 → key < 2 ^ 32 → key_data_at (to_be_bytes w32 process ++ to_be_bytes w32 key) ≡ Ok (backs.KeyData process key, [])
unfolding key_data_at
key_data_again process key p k =
    ap (λ (r : Result (ℕ × List ℕ) ℕ). r >>= λ process. be_number_at w32 process.1 >>= λ key. Ok (backs.KeyData process.0 key.0, key.1)) (number_again w32 (2 ^ 32) be_wide32 process (to_be_bytes w32 key) p)
    ∙ ap (λ (r : Result (ℕ × List ℕ) ℕ). r >>= λ key. Ok (backs.KeyData process key.0, key.1)) (read_alone (be_number_at w32) (to_be_bytes w32 key) key (number_again w32 (2 ^ 32) be_wide32 key [] k))

-- what is spelled so is read
pub back_again : (m : Back) → IsBack m → back_read (back_kind m) (back_body m) ≡ Ok m
unfolding back_read
back_again (backs.Auth code rest) is = ap (λ (r : Result (Back × List ℕ) ℕ). r >>= alone) (auth_again code rest is)
back_again (backs.Status pair) is = made_alone backs.Status (pair_at (pair_bytes pair)) pair (read_alone pair_at (pair_bytes pair) pair (pair_again pair [] is))
back_again (backs.KeyData process key) is = ap (λ (r : Result (Back × List ℕ) ℕ). r >>= alone) (key_data_again process key is.0 is.1)
back_again (backs.Ready b) is = made_alone backs.Ready (state_at (b ∷ [])) b (state_again b is)
back_again (backs.Row fields) is =
    let text = counted_items field_bytes fields in
    made_alone backs.Row (counted_at field_at text) fields (read_alone (counted_at field_at) text fields (counted_again field_at field_bytes IsField field_item fields [] is))
back_again (backs.Cells cells) is =
    let text = counted_items cell_bytes cells in
    made_alone backs.Cells (counted_at cell_at text) cells (read_alone (counted_at cell_at) text cells (counted_again cell_at cell_bytes IsCell cell_item cells [] is))
back_again (backs.Complete tag) is = made_alone backs.Complete (str_at (str tag)) tag (read_alone str_at (str tag) tag (str_again tag [] is))
back_again backs.EmptyQuery is = refl
back_again (backs.Error fields) is =
    let text = listed_items error_bytes fields in
    made_alone backs.Error (listed_at error_at text) fields (read_alone (listed_at error_at) text fields (listed_again error_at error_bytes IsErrorField error_item fields [] is))
back_again (backs.Notice fields) is =
    let text = listed_items error_bytes fields in
    made_alone backs.Notice (listed_at error_at text) fields (read_alone (listed_at error_at) text fields (listed_again error_at error_bytes IsErrorField error_item fields [] is))
back_again backs.ParseDone is = refl
back_again backs.BindDone is = refl
back_again backs.CloseDone is = refl
back_again backs.NoData is = refl
back_again (backs.Params types) is =
    let text = counted_items (to_be_bytes w32) types in
    made_alone backs.Params (counted_at (be_number_at w32) text) types (read_alone (counted_at (be_number_at w32)) text types (counted_again (be_number_at w32) (to_be_bytes w32) IsWord word_item types [] is))
back_again backs.Suspended is = refl
