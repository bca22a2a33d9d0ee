-- The place where a server's message can't be read.
use Rattle.std.proofs.Common.{◌≡◌, ℕ, zero, suc, ◌-◌, ◌^◌, ◌<◌, Bool, true, false, cond, eqb, ◌||◌, List, [], ◌∷◌, ◌++◌, length, take, Result, Ok, Err, refl, sym, ap, subst, ◌∙◌, append_assoc, arith, inl, inr}
use Rattle.std.specs.Int.{w16, w32, to_be_bytes, cast_unsigned}
use Rattle.std.specs.List.{AllByRecursion}
use Rattle.std.proofs.lemmas.List.{append-nil}
use Rattle.pg_wire.specs.declared.back.Field.{Field}
use Rattle.pg_wire.specs.declared.back.ErrorField.{ErrorField}
use Rattle.pg_wire.specs.declared.back.Back.{Back}
use Rattle.pg_wire.specs.declared.back.Back.TheVariants as backs
use Rattle.byte_reader.proofs.Widths.{be_wide32, number_again}
use Rattle.byte_reader.proofs.Taken.{IsBytes}
use Rattle.byte_reader.proofs.Faults.{err_is, number_left}
use Rattle.byte_reader.proofs.Within.{Within, alone_within}
use Rattle.byte_reader.specs.Fields.{str, ◌>>=◌, be_number_at, str_at, alone}
use Rattle.pg_wire.specs.Parts.{IsWord, IsCell, cell_bytes, AreCounted}
use Rattle.pg_wire.specs.Backs.{IsField, field_bytes, IsErrorField, error_bytes, IsState, IsBack, back_kind, back_body}
use Rattle.pg_wire.specs.Bodies.{◌followed_by◌, pair_at, field_at, cell_at, error_at, state_at, counted_at, listed_at, mapped, auth_at, key_data_at, back_at, back_read}
use Rattle.pg_wire.specs.Places.{joined, word_fields, cell_fields, column_fields, error_fields, counted_fields, listed_fields, back_fields, IsBackFault}
use Rattle.pg_wire.proofs.Items.{IsItem}
use Rattle.pg_wire.proofs.BackMessages.{state_takes}
use Rattle.pg_wire.proofs.RowLaws.{regroup7}
use Rattle.pg_wire.proofs.Within.{state_within, auth_within, within_mapped}
use Rattle.pg_wire.proofs.Placing.{Places, single_places}
use Rattle.pg_wire.proofs.ListPlaces.{counted_places, listed_places}
use Rattle.pg_wire.proofs.FieldPlaces.{text_places, word_places, pair_places, cell_places, column_places, error_places}
use Rattle.pg_wire.proofs.FaultPlaces.{counted_joined, listed_joined, unit_places, Faulty, no_faulty, faulty_or, faulty_of, is_place}
use Rattle.pg_wire.proofs.FrontPlaces.{word_joined, pair_joined, cell_joined, words_places}

-- ---- fields are the body

column_joined : (f : Field) → field_bytes f ≡ joined (column_fields f)
column_joined f =
    let last = to_be_bytes w16 f.format in
    let before = λ (w : List ℕ). str f.name ++ (to_be_bytes w32 f.table ++ (to_be_bytes w16 f.attribute ++ (to_be_bytes w32 f.kind ++ (to_be_bytes w16 (cast_unsigned w16 f.size) ++ (to_be_bytes w32 (cast_unsigned w32 f.modifier) ++ w))))) in
    regroup7 (str f.name) (to_be_bytes w32 f.table) (to_be_bytes w16 f.attribute) (to_be_bytes w32 f.kind) (to_be_bytes w16 (cast_unsigned w16 f.size)) (to_be_bytes w32 (cast_unsigned w32 f.modifier)) last
    ∙ ap before (sym (append-nil last))

error_joined : (f : ErrorField) → error_bytes f ≡ joined (error_fields f)
error_joined f = ap (λ (w : List ℕ). f.code ∷ w) (sym (append-nil (str f.text)))

pub back_joined : (m : Back) → back_body m ≡ joined (back_fields m)
back_joined (backs.Auth code rest) = ap (λ (w : List ℕ). to_be_bytes w32 code ++ w) (sym (append-nil rest))
back_joined (backs.Status pair) = pair_joined pair
back_joined (backs.KeyData process key) = ap (λ (w : List ℕ). to_be_bytes w32 process ++ w) (sym (append-nil (to_be_bytes w32 key)))
back_joined (backs.Ready b) = refl
back_joined (backs.Row fields) = counted_joined field_bytes column_fields column_joined fields
back_joined (backs.Cells cells) = counted_joined cell_bytes cell_fields cell_joined cells
back_joined (backs.Complete tag) = sym (append-nil (str tag))
back_joined backs.EmptyQuery = refl
back_joined (backs.Error fields) = listed_joined error_bytes error_fields error_joined fields
back_joined (backs.Notice fields) = listed_joined error_bytes error_fields error_joined fields
back_joined backs.ParseDone = refl
back_joined backs.BindDone = refl
back_joined backs.CloseDone = refl
back_joined backs.NoData = refl
back_joined (backs.Params types) = counted_joined (to_be_bytes w32) word_fields word_joined types
back_joined backs.Suspended = refl

-- ---- what messages hold

abbrev told : ℕ → List ℕ → Result (ℕ × List ℕ) ℕ
told b rest = Ok (b, rest)

state_left : (bytes : List ℕ) (left : ℕ) → state_at bytes ≡ Err left → left ≡ length bytes
unfolding state_at
state_left [] left e = sym (err_is {A = ℕ × List ℕ} 0 left e)
state_left (b ∷ bytes) left e = by ((eqb b 73 || eqb b 84) || eqb b 69) e where
  by : (t : Bool) → cond t (told b bytes) (Err (length (b ∷ bytes))) ≡ Err left → left ≡ length (b ∷ bytes)
  by true h = absurd cc
  by false h = sym (err_is {A = ℕ × List ℕ} (length (b ∷ bytes)) left h)

state_again : (b : ℕ) (rest : List ℕ) → IsState b → state_at ((b ∷ []) ++ rest) ≡ Ok (b, rest)
unfolding state_at
state_again b rest (inl e) = rw e refl
state_again b rest (inr (inl e)) = rw e refl
state_again b rest (inr (inr e)) = rw e refl

state_item : IsItem state_at (λ b. b ∷ []) IsState
state_item = record { takes = λ bytes x fits e. let t = state_takes bytes x fits e in (t.1, t.0); again = state_again }

state_places : Places state_at (λ b. (b ∷ []) ∷ []) IsState
state_places = single_places state_item 73 (inl refl) state_within state_left

row_places : Places (counted_at field_at) (counted_fields column_fields) (AreCounted IsField)
row_places = counted_places column_places

cells_places : Places (counted_at cell_at) (counted_fields cell_fields) (AreCounted IsCell)
cells_places = counted_places cell_places

types_places : Places (counted_at (be_number_at w32)) (counted_fields word_fields) (AreCounted IsWord)
types_places = counted_places word_places

errors_places : Places (listed_at error_at) (listed_fields error_fields) (AllByRecursion IsErrorField)
errors_places = listed_places error_places

-- ---- where a fault stands

abbrev BackFaulty : ℕ → List ℕ → Result (Back × List ℕ) ℕ → Type 0
BackFaulty = Faulty Back IsBack back_kind back_fields

auth_faulty : (body : List ℕ) → BackFaulty 82 body (auth_at body)
unfolding auth_at
auth_faulty body = record { stops = λ left e. inl (by left (be_number_at w32 body) refl e) } where
  by : (left : ℕ) (r : Result (ℕ × List ℕ) ℕ) → be_number_at w32 body ≡ r → ((r >>= λ code. Ok (backs.Auth code.0 code.1, [])) >>= alone) ≡ Err left → left ≡ length body
  by left (Err l) is e = sym (err_is {A = Back} l left e) ∙ number_left w32 body l is
  by left (Ok code) is e = absurd cc

abbrev pub keyed : ℕ × ℕ → Back
keyed x = backs.KeyData x.0 x.1

key_data_same : (body : List ℕ) → key_data_at body ≡ mapped keyed ((be_number_at w32 followed_by be_number_at w32) body)
unfolding key_data_at
key_data_same body = by (be_number_at w32 body) where
  second : (process : ℕ) (r : Result (ℕ × List ℕ) ℕ) → (r >>= λ key. Ok (backs.KeyData process key.0, key.1)) ≡ mapped keyed (r >>= λ key. Ok ((process, key.0), key.1))
  second process (Ok key) = refl
  second process (Err left) = refl

  by : (r : Result (ℕ × List ℕ) ℕ) → (r >>= λ process. be_number_at w32 process.1 >>= λ key. Ok (backs.KeyData process.0 key.0, key.1))
      ≡ mapped keyed (r >>= λ process. be_number_at w32 process.1 >>= λ key. Ok ((process.0, key.0), key.1))
  by (Ok process) = second process.0 (be_number_at w32 process.1)
  by (Err left) = refl

key_data_faulty : (body : List ℕ) → IsBytes body → BackFaulty 75 body (key_data_at body)
key_data_faulty body bs = subst (BackFaulty 75 body) (sym (key_data_same body)) (faulty_of 75 body keyed bs words_places (λ v h. (h, refl, refl)))

-- a message without a body
empty_faulty : (k : ℕ) (m : Back) (body : List ℕ) → IsBytes body → IsBack m → k ≡ back_kind m → back_fields m ≡ [] → BackFaulty k body (Ok (m, body))
empty_faulty k m body bs is kind none = faulty_of k body (λ u. m) bs unit_places (λ v h. (is, kind, none))

back_faulty : (kind : ℕ) (body : List ℕ) → IsBytes body → BackFaulty kind body (back_at kind body)
back_faulty kind body bs =
    faulty_or (auth_faulty body)
    (faulty_or (faulty_of 83 body backs.Status bs pair_places (λ v h. (h, refl, refl)))
    (faulty_or (key_data_faulty body bs)
    (faulty_or (faulty_of 90 body backs.Ready bs state_places (λ v h. (h, refl, refl)))
    (faulty_or (faulty_of 84 body backs.Row bs row_places (λ v h. (h, refl, refl)))
    (faulty_or (faulty_of 68 body backs.Cells bs cells_places (λ v h. (h, refl, refl)))
    (faulty_or (faulty_of 67 body backs.Complete bs text_places (λ v h. (h, refl, refl)))
    (faulty_or (faulty_of 69 body backs.Error bs errors_places (λ v h. (h, refl, refl)))
    (faulty_or (empty_faulty 73 backs.EmptyQuery body bs tt refl refl)
    (faulty_or (faulty_of 78 body backs.Notice bs errors_places (λ v h. (h, refl, refl)))
    (faulty_or (empty_faulty 49 backs.ParseDone body bs tt refl refl)
    (faulty_or (empty_faulty 50 backs.BindDone body bs tt refl refl)
    (faulty_or (empty_faulty 51 backs.CloseDone body bs tt refl refl)
    (faulty_or (empty_faulty 110 backs.NoData body bs tt refl refl)
    (faulty_or (faulty_of 116 body backs.Params bs types_places (λ v h. (h, refl, refl)))
    (faulty_or (empty_faulty 115 backs.Suspended body bs tt refl refl)
    no_faulty)))))))))))))))

-- ---- no message reaches further

auth_most : (code : ℕ) (tail : List ℕ) (n : ℕ) (body rest : List ℕ) → code < 2 ^ 32 → body ≡ joined (take n (to_be_bytes w32 code ∷ tail ∷ [])) ++ rest → Within (length rest) (auth_at body)
unfolding auth_at
auth_most code tail zero body rest lt e = subst (λ (n : ℕ). Within n (auth_at body)) (ap length e) (auth_within body)
auth_most code tail (suc n) body rest lt e =
    let more = joined (take n (tail ∷ [])) ++ rest in
    let one : be_number_at w32 body ≡ Ok (code, more) = ap (be_number_at w32) (e ∙ append_assoc (to_be_bytes w32 code) (joined (take n (tail ∷ []))) rest) ∙ number_again w32 (2 ^ 32) be_wide32 code more lt in
    subst (λ (y : Result (ℕ × List ℕ) ℕ). Within (length rest) (y >>= λ code. Ok (backs.Auth code.0 code.1, []))) (sym one) (omega arith)

key_data_most : (process key n : ℕ) (body rest : List ℕ) → IsWord process × IsWord key → IsBytes body → body ≡ joined (take n (to_be_bytes w32 process ∷ to_be_bytes w32 key ∷ [])) ++ rest → Within (length rest) (key_data_at body)
key_data_most process key n body rest is bs e =
    subst (λ (y : Result (Back × List ℕ) ℕ). Within (length rest) y) (sym (key_data_same body))
    (within_mapped (length rest) keyed ((be_number_at w32 followed_by be_number_at w32) body) (words_places.most body rest (process, key) n is bs e))

empty_most : (m : Back) (n : ℕ) (body rest : List ℕ) → IsBytes body → body ≡ joined (take n []) ++ rest → Within (length rest) (Ok (m, body))
empty_most m n body rest bs e = within_mapped (length rest) (λ u. m) (Ok (tt {0}, body)) (unit_places.most body rest (tt {0}) n (tt {0}) bs e)

back_most : (m : Back) (n : ℕ) (body rest : List ℕ) → IsBack m → IsBytes body → body ≡ joined (take n (back_fields m)) ++ rest → Within (length rest) (back_at (back_kind m) body)
back_most (backs.Auth code tail) n body rest is bs e = auth_most code tail n body rest is e
back_most (backs.Status pair) n body rest is bs e = within_mapped (length rest) backs.Status (pair_at body) (pair_places.most body rest pair n is bs e)
back_most (backs.KeyData process key) n body rest is bs e = key_data_most process key n body rest is bs e
back_most (backs.Ready b) n body rest is bs e = within_mapped (length rest) backs.Ready (state_at body) (state_places.most body rest b n is bs e)
back_most (backs.Row fields) n body rest is bs e = within_mapped (length rest) backs.Row (counted_at field_at body) (row_places.most body rest fields n is bs e)
back_most (backs.Cells cells) n body rest is bs e = within_mapped (length rest) backs.Cells (counted_at cell_at body) (cells_places.most body rest cells n is bs e)
back_most (backs.Complete tag) n body rest is bs e = within_mapped (length rest) backs.Complete (str_at body) (text_places.most body rest tag n is bs e)
back_most backs.EmptyQuery n body rest is bs e = empty_most backs.EmptyQuery n body rest bs e
back_most (backs.Error fields) n body rest is bs e = within_mapped (length rest) backs.Error (listed_at error_at body) (errors_places.most body rest fields n is bs e)
back_most (backs.Notice fields) n body rest is bs e = within_mapped (length rest) backs.Notice (listed_at error_at body) (errors_places.most body rest fields n is bs e)
back_most backs.ParseDone n body rest is bs e = empty_most backs.ParseDone n body rest bs e
back_most backs.BindDone n body rest is bs e = empty_most backs.BindDone n body rest bs e
back_most backs.CloseDone n body rest is bs e = empty_most backs.CloseDone n body rest bs e
back_most backs.NoData n body rest is bs e = empty_most backs.NoData n body rest bs e
back_most (backs.Params types) n body rest is bs e = within_mapped (length rest) backs.Params (counted_at (be_number_at w32) body) (types_places.most body rest types n is bs e)
back_most backs.Suspended n body rest is bs e = empty_most backs.Suspended n body rest bs e

pub back_place : (kind : ℕ) (body : List ℕ) (left : ℕ) → IsBytes body → back_read kind body ≡ Err left → IsBackFault kind body (length body - left)
unfolding back_read
back_place kind body left bs e =
    is_place kind body left ((back_faulty kind body bs).stops left e)
    (λ m n rest is k parts. alone_within (length rest) left (back_at kind body) (subst (λ (j : ℕ). Within (length rest) (back_at j body)) (sym k) (back_most m n body rest is bs parts)) e)
