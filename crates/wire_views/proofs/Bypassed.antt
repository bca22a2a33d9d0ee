-- What follows a message, by its kind.
use Rattle.std.proofs.Common.{◌≡◌, ℕ, zero, suc, ◌==◌, ◌≤◌, List, [], ◌∷◌, length, Result, Ok, Err, true, false, refl, sym, ap, subst, ◌∙◌}
use Rattle.std.specs.Int.{w16, w32}
use Rattle.byte_reader.specs.Fields.{◌>>=◌, be_number_at, alone}
use Rattle.pg_wire.specs.declared.back.Back.{Back}
use Rattle.pg_wire.specs.declared.back.Back.TheVariants as backs
use Rattle.pg_wire.specs.Bodies.{field_at, cell_at, error_at, items_at, counted_at, ended_at, listed_at, mapped, back_at, back_read}
use Rattle.pg_wire.proofs.Within.{back_left}
use Rattle.wire_views.specs.declared.fields.Field.TheVariants as field
use Rattle.wire_views.specs.Passing.{past, each_past, counted_past, ended_past, listed_past, field_past, Passes}

pub past_mapped : {A B : Type 0} (f : A → B) (read : Result (A × List ℕ) ℕ) → past (mapped f read) ≡ past read
past_mapped f (Ok x) = refl
past_mapped f (Err left) = refl

module _ {A : Type 0} (item : List ℕ → Result (A × List ℕ) ℕ) where
  abbrev Step : List ℕ → Result (List ℕ) ℕ
  Step bytes = past (item bytes)

  with_first : (x : A) (read : Result (List A × List ℕ) ℕ) → past (read >>= λ y. Ok (x ∷ y.0, y.1)) ≡ past read
  with_first x (Ok y) = refl
  with_first x (Err left) = refl

  -- an item, and the others behind it
  one_item : (others : List ℕ → Result (List A × List ℕ) ℕ) (step : List ℕ → Result (List ℕ) ℕ) (first : Result (A × List ℕ) ℕ) → ((rest : List ℕ) → past (others rest) ≡ step rest)
      → past (first >>= λ x. others x.1 >>= λ y. Ok (x.0 ∷ y.0, y.1)) ≡ (past first >>= step)
  one_item others step (Ok x) same = with_first x.0 (others x.1) ∙ same x.1
  one_item others step (Err left) same = refl

  pub items : (n : ℕ) (bytes : List ℕ) → past (items_at item n bytes) ≡ each_past Step n bytes
  unfolding items_at
  items zero bytes = refl
  items (suc n) bytes = one_item (items_at item n) (each_past Step n) (item bytes) (λ rest. items n rest)

  pub counted : (bytes : List ℕ) → past (counted_at item bytes) ≡ counted_past Step bytes
  unfolding counted_at
  counted bytes = by (be_number_at w16 bytes)
    where
      by : (n : Result (ℕ × List ℕ) ℕ) → past (n >>= λ x. items_at item x.0 x.1) ≡ (n >>= λ x. each_past Step x.0 x.1)
      by (Ok x) = items x.0 x.1
      by (Err left) = refl

  pub ended : (n : ℕ) (bytes : List ℕ) → past (ended_at item n bytes) ≡ ended_past Step n bytes
  unfolding ended_at
  ended zero bytes = refl
  ended (suc n) [] = refl
  ended (suc n) (zero ∷ bytes) = refl
  ended (suc n) (suc b ∷ bytes) = one_item (ended_at item n) (ended_past Step n) (item (suc b ∷ bytes)) (λ rest. ended n rest)

  pub listed : (bytes : List ℕ) → past (listed_at item bytes) ≡ listed_past Step bytes
  listed bytes = ended (length bytes) bytes

-- ---- a server's message

module _ {X : Type 0} (rest : X → List ℕ) (result : Result X ℕ) (body : List ℕ) where
  pub in_row : (kind : ℕ) → kind ≡ 84 → Passes rest result (counted_past (field_past field.Column) body) → Passes rest result (past (back_at kind body))
  in_row kind e h = subst (Passes rest result) (sym (ap (λ k. past (back_at k body)) e ∙ past_mapped backs.Row (counted_at field_at body) ∙ counted field_at body)) h

  pub in_cells : (kind : ℕ) → kind ≡ 68 → Passes rest result (counted_past (field_past field.Cell) body) → Passes rest result (past (back_at kind body))
  in_cells kind e h = subst (Passes rest result) (sym (ap (λ k. past (back_at k body)) e ∙ past_mapped backs.Cells (counted_at cell_at body) ∙ counted cell_at body)) h

  pub in_params : (kind : ℕ) → kind ≡ 116 → Passes rest result (counted_past (field_past field.Word) body) → Passes rest result (past (back_at kind body))
  in_params kind e h = subst (Passes rest result) (sym (ap (λ k. past (back_at k body)) e ∙ past_mapped backs.Params (counted_at (be_number_at w32) body) ∙ counted (be_number_at w32) body)) h

  pub in_error : (kind : ℕ) → kind ≡ 69 → Passes rest result (listed_past (field_past field.Error) body) → Passes rest result (past (back_at kind body))
  in_error kind e h = subst (Passes rest result) (sym (ap (λ k. past (back_at k body)) e ∙ past_mapped backs.Error (listed_at error_at body) ∙ listed error_at body)) h

  pub in_notice : (kind : ℕ) → kind ≡ 78 → Passes rest result (listed_past (field_past field.Error) body) → Passes rest result (past (back_at kind body))
  in_notice kind e h = subst (Passes rest result) (sym (ap (λ k. past (back_at k body)) e ∙ past_mapped backs.Notice (listed_at error_at body) ∙ listed error_at body)) h

read_by : (kind : ℕ) (body : List ℕ) → back_read kind body ≡ (back_at kind body >>= alone)
unfolding back_read
read_by kind body = refl

pub whole_by : {M : Type 0} (read : Result (M × List ℕ) ℕ) (rest : List ℕ) → past read ≡ Ok rest → (length rest == 0) ≡ true → (m : M) × ((read >>= alone) ≡ Ok m)
whole_by (Ok x) rest e none = let same : x.1 ≡ rest = cc in (x.0, rw (same, none) refl)
whole_by (Err left) rest e none = cc

pub more_by : {M : Type 0} (read : Result (M × List ℕ) ℕ) (rest : List ℕ) → past read ≡ Ok rest → (length rest == 0) ≡ false → (read >>= alone) ≡ Err (length rest)
more_by (Ok x) rest e some = let same : x.1 ≡ rest = cc in rw (same, some) refl
more_by (Err left) rest e some = cc

pub cut_by : {M : Type 0} (read : Result (M × List ℕ) ℕ) (left : ℕ) → past read ≡ Err left → (read >>= alone) ≡ Err left
cut_by (Ok x) left e = cc
cut_by (Err n) left e = let same : n ≡ left = cc in ap Err same

module _ (kind : ℕ) (body : List ℕ) where
  pub back_whole : (rest : List ℕ) → past (back_at kind body) ≡ Ok rest → (length rest == 0) ≡ true → (m : Back) × (back_read kind body ≡ Ok m)
  back_whole rest e none = let w = whole_by (back_at kind body) rest e none in (w.0, read_by kind body ∙ w.1)

  abbrev Fails : ℕ → Type 0
  Fails left = (left ≤ length body) × (back_read kind body ≡ Err left)

  fails : (left : ℕ) → back_read kind body ≡ Err left → Fails left
  fails left e = (back_left kind body left e, e)

  pub back_more : (rest : List ℕ) → past (back_at kind body) ≡ Ok rest → (length rest == 0) ≡ false → Fails (length rest)
  back_more rest e some = fails (length rest) (read_by kind body ∙ more_by (back_at kind body) rest e some)

  pub back_cut : (left : ℕ) → past (back_at kind body) ≡ Err left → Fails left
  back_cut left e = fails left (read_by kind body ∙ cut_by (back_at kind body) left e)
