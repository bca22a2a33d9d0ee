-- How far readers of fields and of their groups get.
use Rattle.std.proofs.Common.{◌≡◌, ◌≢◌, ℕ, zero, suc, ◌^◌, ◌<◌, ◌⊎◌, Bool, true, false, cond, eqb, ltb, ◌||◌, List, [], ◌∷◌, ◌++◌, length, get_or, replicate, Option, Some, None, Result, Ok, Err, refl, sym, ap, subst, ◌∙◌, arith, inl, inr, ℤ}
use Rattle.std.specs.Int.{w16, w32, to_be_bytes, cast_signed, cast_unsigned}
use Rattle.std.proofs.lemmas.Bool.{eqb-true, ne_eqb, ltb-true, lt-ltb, or_cases}
use Rattle.std.proofs.lemmas.Int.{to_z-of_z, of_z-to_z}
use Rattle.std.proofs.lemmas.List.{length-replicate}
use Rattle.std.proofs.Math.Facts.{Fits-of_z}
use Rattle.pg_wire.specs.declared.front.Pair.{Pair}
use Rattle.pg_wire.specs.declared.back.Field.{Field}
use Rattle.pg_wire.specs.declared.back.ErrorField.{ErrorField}
use Rattle.byte_reader.specs.Fields.{◌>>=◌, be_number_at, bytes_at, str_at, IsText, str}
use Rattle.byte_reader.proofs.Steps.{bind_ok, ok_is}
use Rattle.byte_reader.proofs.Taken.{IsBytes, IsBytes-rest, Takes, bytes_take, bytes_again}
use Rattle.byte_reader.proofs.Texts.{str_takes, str_again, text_first}
use Rattle.byte_reader.proofs.Widths.{be_wide32, number_takes, number_again}
use Rattle.byte_reader.proofs.Faults.{err_is, bind_err, kept_err, number_left, bytes_left, str_left}
use Rattle.byte_reader.proofs.Within.{Within, within_cond, be_number_within, bytes_within, str_within}
use Rattle.pg_wire.specs.Parts.{IsPair, IsWord, IsFormat, IsCell}
use Rattle.pg_wire.specs.Fronts.{IsParam}
use Rattle.pg_wire.specs.Backs.{IsField, IsErrorField}
use Rattle.pg_wire.specs.Bodies.{pair_at, format_at, field_at, cell_at, error_at, mapped}
use Rattle.pg_wire.specs.Places.{joined, word_fields, format_fields, pair_fields, cell_fields, column_fields, error_fields}
use Rattle.pg_wire.proofs.Items.{IsItem}
use Rattle.pg_wire.proofs.RowLaws.{str_item, word_item, format_item, with_name, with_table, with_attribute, with_kind, with_size, with_modifier, fits16, fits32, some_cell, cell_behind, kept_ok}
use Rattle.pg_wire.proofs.Within.{format_within}
use Rattle.pg_wire.proofs.Placing.{Places, Goes, single_places, nothing_places, same_places, map_places, then_places}
use Rattle.pg_wire.proofs.ListPlaces.{ListPlaces, count_places}

-- ---- texts and numbers

empty_text : IsText []
empty_text found = absurd (omega (arith, found.1))

pub text_places : Places str_at (λ text. str text ∷ []) IsText
text_places = single_places str_item [] empty_text str_within str_left

pub word_places : Places (be_number_at w32) word_fields IsWord
word_places = single_places word_item 0 (omega arith) (be_number_within w32) (number_left w32)

format_left : (bytes : List ℕ) (left : ℕ) → format_at bytes ≡ Err left → left ≡ length bytes
unfolding format_at
format_left bytes left e =
    elim (bind_err (be_number_at w16 bytes) (λ n. cond (ltb n.0 2) (Ok n) (Err (length bytes))) left e) [
      | inl h ↦ number_left w16 bytes left h
      | inr h ↦ kept_err (ltb h.0.0 2) (length bytes) h.0 left h.2
    ]

pub format_places : Places format_at format_fields IsFormat
format_places = single_places format_item 0 (omega arith) format_within format_left

-- ---- pairs

-- a name that is read so, and a value
pub pair_by : {Fits : List ℕ → Type 0} {Right : Pair → Type 0} (name_at : List ℕ → Result (List ℕ × List ℕ) ℕ) → Places name_at (λ text. str text ∷ []) Fits → ((name value : List ℕ) → Fits name → IsText value → Right (record { name = name; value = value }))
    → ((p : Pair) → Right p → Fits p.name × IsText p.value) → Places (λ bytes. name_at bytes >>= λ name. str_at name.1 >>= λ value. Ok (record { name = name.0; value = value.0 }, value.1)) pair_fields Right
pair_by {Fits} {Right} name_at names there back =
    then_places {later = λ p. str p.value ∷ []} (λ (p : Pair). p.name) (λ name bytes. mapped (λ value. record { name = name; value = value }) (str_at bytes)) names
    (λ name fits. map_places (λ value. record { name = name; value = value }) (λ p. p.value) text_places (λ value is. (there name value fits is, refl))
    (λ p h. record { fits = (back p h.0).1; same = ap (λ (n : List ℕ). record { name = n; value = p.value }) (sym h.1); spelled = refl }) (λ value is. refl))
    (λ p h. ((back p h).0, refl))

pub pair_places : Places pair_at pair_fields IsPair
unfolding pair_at
pair_places = pair_by str_at text_places (λ name value n v. (n, v)) (λ p h. h)

-- a text that is not empty
named_at : List ℕ → Result (List ℕ × List ℕ) ℕ
named_at [] = Err 0
named_at (zero ∷ bytes) = Err (length (0 ∷ bytes))
named_at (suc b ∷ bytes) = str_at (suc b ∷ bytes)

IsName : List ℕ → Type 0
IsName name = (name ≢ []) × IsText name

named_takes : (bytes : List ℕ) (x : List ℕ × List ℕ) → IsBytes bytes → named_at bytes ≡ Ok x → Takes bytes (str x.0) x.1 × IsName x.0
unfolding named_at IsName
named_takes [] x bs e = absurd cc
named_takes (zero ∷ bytes) x bs e = absurd cc
named_takes (suc b ∷ bytes) x bs e =
    let t = str_takes (suc b ∷ bytes) x bs e in
    (t.0, ((λ none. let clash : suc b ∷ bytes ≡ 0 ∷ x.1 = t.0.parts ∙ ap (λ (n : List ℕ). str n ++ x.1) none in absurd cc), t.1))

named_again : (name rest : List ℕ) → IsName name → named_at (str name ++ rest) ≡ Ok (name, rest)
unfolding named_at IsName
named_again [] rest is = absurd (is.0 refl)
named_again (zero ∷ name) rest is = absurd (text_first 0 name is.1 refl)
named_again (suc b ∷ name) rest is = str_again (suc b ∷ name) rest is.1

named_within : (bytes : List ℕ) → Within (length bytes) (named_at bytes)
unfolding named_at
named_within [] = omega arith
named_within (zero ∷ bytes) = omega arith
named_within (suc b ∷ bytes) = str_within (suc b ∷ bytes)

named_left : (bytes : List ℕ) (left : ℕ) → named_at bytes ≡ Err left → left ≡ length bytes
unfolding named_at
named_left [] left e = sym (err_is {A = List ℕ × List ℕ} 0 left e)
named_left (zero ∷ bytes) left e = sym (err_is {A = List ℕ × List ℕ} (length (0 ∷ bytes)) left e)
named_left (suc b ∷ bytes) left e = str_left (suc b ∷ bytes) left e

named_item : IsItem named_at str IsName
named_item = record { takes = named_takes; again = named_again }

one_byte : IsName (1 ∷ [])
unfolding IsName
one_byte = (λ none. absurd cc, λ found. let z : found.0 ≡ 0 = omega (arith, found.1) in let e : get_or (1 ∷ []) 0 0 ≡ 0 = ap (λ (i : ℕ). get_or (1 ∷ []) i 0) (sym z) ∙ found.2 in absurd (omega (arith, e)))

named_places : Places named_at (λ text. str text ∷ []) IsName
named_places = single_places named_item (1 ∷ []) one_byte named_within named_left

own_pair : List ℕ → Result (Pair × List ℕ) ℕ
own_pair bytes = named_at bytes >>= λ name. str_at name.1 >>= λ value. Ok (record { name = name.0; value = value.0 }, value.1)

own_places : Places own_pair pair_fields IsParam
unfolding own_pair IsName
own_places = pair_by named_at named_places (λ name value n v. (n.0, (n.1, v))) (λ p h. ((h.0, h.1.0), h.1.1))

pair_begins : (p : Pair) → IsParam p → (b : ℕ) × (tail : List ℕ) × (joined (pair_fields p) ≡ suc b ∷ tail)
pair_begins p is = by p.name p.value is.0 is.1.0 where
  by : (name value : List ℕ) → name ≢ [] → IsText name → (b : ℕ) × (tail : List ℕ) × (joined (str name ∷ str value ∷ []) ≡ suc b ∷ tail)
  by [] value some is' = absurd (some refl)
  by (zero ∷ name) value some is' = absurd (text_first 0 name is' refl)
  by (suc b ∷ name) value some is' = (b, str name ++ joined (str value ∷ []), refl)

pair_agree : (b : ℕ) (bytes : List ℕ) → pair_at (suc b ∷ bytes) ≡ own_pair (suc b ∷ bytes)
unfolding pair_at own_pair named_at
pair_agree b bytes = refl

pub param_places : ListPlaces pair_at pair_fields IsParam
param_places = record { own = own_pair; agree = pair_agree; places = own_places; begins = pair_begins }

-- ---- fields of errors

code_at : List ℕ → Result (ℕ × List ℕ) ℕ
code_at [] = Err 0
code_at (zero ∷ bytes) = Err (length (0 ∷ bytes))
code_at (suc b ∷ bytes) = Ok (suc b, bytes)

IsCode : ℕ → Type 0
IsCode code = (0 < code) × (code < 256)

code_takes : (bytes : List ℕ) (x : ℕ × List ℕ) → IsBytes bytes → code_at bytes ≡ Ok x → Takes bytes (x.0 ∷ []) x.1 × IsCode x.0
unfolding code_at IsCode
code_takes [] x bs e = absurd cc
code_takes (zero ∷ bytes) x bs e = absurd cc
code_takes (suc b ∷ bytes) x bs e =
    subst (λ (y : ℕ × List ℕ). Takes (suc b ∷ bytes) (y.0 ∷ []) y.1 × ((0 < y.0) × (y.0 < 256))) (ok_is (suc b, bytes) x e) (record { parts = refl; rest_fits = IsBytes-rest (suc b) bytes bs }, (omega arith, bs 0))

code_again : (code : ℕ) (rest : List ℕ) → IsCode code → code_at ((code ∷ []) ++ rest) ≡ Ok (code, rest)
unfolding code_at IsCode
code_again zero rest is = absurd (omega (arith, is.0))
code_again (suc b) rest is = refl

code_within : (bytes : List ℕ) → Within (length bytes) (code_at bytes)
unfolding code_at
code_within [] = omega arith
code_within (zero ∷ bytes) = omega arith
code_within (suc b ∷ bytes) = omega arith

code_left : (bytes : List ℕ) (left : ℕ) → code_at bytes ≡ Err left → left ≡ length bytes
unfolding code_at
code_left [] left e = sym (err_is {A = ℕ × List ℕ} 0 left e)
code_left (zero ∷ bytes) left e = sym (err_is {A = ℕ × List ℕ} (length (0 ∷ bytes)) left e)
code_left (suc b ∷ bytes) left e = absurd cc

code_item : IsItem code_at (λ code. code ∷ []) IsCode
code_item = record { takes = code_takes; again = code_again }

some_code : IsCode 1
unfolding IsCode
some_code = (omega arith, omega arith)

code_places : Places code_at (λ code. (code ∷ []) ∷ []) IsCode
code_places = single_places code_item 1 some_code code_within code_left

own_error : List ℕ → Result (ErrorField × List ℕ) ℕ
own_error bytes = code_at bytes >>= λ code. str_at code.1 >>= λ text. Ok (record { code = code.0; text = text.0 }, text.1)

error_own : Places own_error error_fields IsErrorField
unfolding own_error IsCode
error_own =
    then_places {later = λ f. str f.text ∷ []} (λ (f : ErrorField). f.code) (λ code bytes. mapped (λ text. record { code = code; text = text }) (str_at bytes)) code_places
    (λ code fits. map_places (λ text. record { code = code; text = text }) (λ f. f.text) text_places (λ text is. ((fits.0, fits.1, is), refl))
    (λ f h. record { fits = h.0.2; same = ap (λ (n : ℕ). record { code = n; text = f.text }) (sym h.1); spelled = refl }) (λ text is. refl))
    (λ f h. ((h.0, h.1), refl))

error_agree : (b : ℕ) (bytes : List ℕ) → error_at (suc b ∷ bytes) ≡ own_error (suc b ∷ bytes)
unfolding error_at own_error code_at
error_agree b bytes = refl

error_first : (f : ErrorField) → IsErrorField f → (b : ℕ) × (tail : List ℕ) × (joined (error_fields f) ≡ suc b ∷ tail)
error_first f is = by f.code f.text is.0 where
  by : (code : ℕ) (text : List ℕ) → 0 < code → (b : ℕ) × (tail : List ℕ) × (joined ((code ∷ []) ∷ str text ∷ []) ≡ suc b ∷ tail)
  by zero text has = absurd (omega arith)
  by (suc b) text has = (b, joined (str text ∷ []), refl)

pub error_places : ListPlaces error_at error_fields IsErrorField
error_places = record { own = own_error; agree = error_agree; places = error_own; begins = error_first }

-- ---- cells

-- a length of a cell: NULL's, or one that isn't negative
size_at : List ℕ → Result (ℕ × List ℕ) ℕ
size_at bytes = be_number_at w32 bytes >>= λ n. cond (eqb n.0 4294967295 || ltb n.0 (2 ^ 31)) (Ok n) (Err (length bytes))

abbrev sized : ℕ → List ℕ → Result (ℕ × List ℕ) ℕ
sized n rest = Ok (n, rest)

IsSize : ℕ → Type 0
IsSize n = (n ≡ 4294967295) ⊎ (n < 2 ^ 31)

abbrev is_size : ℕ → Bool
is_size n = eqb n 4294967295 || ltb n (2 ^ 31)

size_of : (n : ℕ) → is_size n ≡ true → IsSize n
unfolding IsSize
size_of n e = elim (or_cases (eqb n 4294967295) (ltb n (2 ^ 31)) e) [ inl h ↦ inl (eqb-true _ _ h) | inr h ↦ inr (ltb-true _ _ h) ]

or_right : (a b : Bool) → b ≡ true → (a || b) ≡ true
or_right true b e = refl
or_right false b e = e

is_size_of : (n : ℕ) → IsSize n → is_size n ≡ true
unfolding IsSize
is_size_of n (inl e) = rw e refl
is_size_of n (inr lt) = or_right (eqb n 4294967295) (ltb n (2 ^ 31)) (lt-ltb n (2 ^ 31) lt)

size_below : (n : ℕ) → IsSize n → n < 2 ^ 32
unfolding IsSize
size_below n (inl e) = omega arith
size_below n (inr lt) = omega arith

size_takes : (bytes : List ℕ) (x : ℕ × List ℕ) → IsBytes bytes → size_at bytes ≡ Ok x → Takes bytes (to_be_bytes w32 x.0) x.1 × IsSize x.0
unfolding size_at
size_takes bytes x fits e =
    let a = bind_ok (be_number_at w32 bytes) (λ n. cond (is_size n.0) (Ok n) (Err (length bytes))) x e in
    let g = kept_ok (is_size a.0.0) (length bytes) a.0 x a.2 in
    let t = number_takes w32 (2 ^ 32) be_wide32 bytes a.0 fits a.1 in
    subst (λ (y : ℕ × List ℕ). Takes bytes (to_be_bytes w32 y.0) y.1 × IsSize y.0) g.1 (t.0, size_of a.0.0 g.0)

size_again : (n : ℕ) (rest : List ℕ) → IsSize n → size_at (to_be_bytes w32 n ++ rest) ≡ Ok (n, rest)
unfolding size_at
size_again n rest is =
    let all = length (to_be_bytes w32 n ++ rest) in
    ap (λ (r : Result (ℕ × List ℕ) ℕ). r >>= λ m. cond (is_size m.0) (Ok m) (Err all)) (number_again w32 (2 ^ 32) be_wide32 n rest (size_below n is)) ∙ ap (λ (b : Bool). cond b (sized n rest) (Err all)) (is_size_of n is)

size_left : (bytes : List ℕ) (left : ℕ) → size_at bytes ≡ Err left → left ≡ length bytes
unfolding size_at
size_left bytes left e =
    elim (bind_err (be_number_at w32 bytes) (λ n. cond (is_size n.0) (Ok n) (Err (length bytes))) left e) [
      | inl h ↦ number_left w32 bytes left h
      | inr h ↦ kept_err (is_size h.0.0) (length bytes) h.0 left h.2
    ]

size_within : (bytes : List ℕ) → Within (length bytes) (size_at bytes)
unfolding size_at
size_within bytes = by (be_number_at w32 bytes) (be_number_within w32 bytes) where
  by : (r : Result (ℕ × List ℕ) ℕ) → Within (length bytes) r → Within (length bytes) (r >>= λ n. cond (is_size n.0) (Ok n) (Err (length bytes)))
  by (Ok n) h = within_cond (length bytes) (is_size n.0) (Ok n) (Err (length bytes)) h (omega arith)
  by (Err left) h = h

size_item : IsItem size_at (to_be_bytes w32) IsSize
size_item = record { takes = size_takes; again = size_again }

no_size : IsSize 0
unfolding IsSize
no_size = inr (omega arith)

size_places : Places size_at (λ n. to_be_bytes w32 n ∷ []) IsSize
size_places = single_places size_item 0 no_size size_within size_left

bytes_item : (n : ℕ) → IsItem (bytes_at n) (λ bytes. bytes) (λ bytes. length bytes ≡ n)
bytes_item n = record { takes = bytes_take n; again = bytes_again n }

bytes_places : (n : ℕ) → Places (bytes_at n) (λ bytes. bytes ∷ []) (λ bytes. length bytes ≡ n)
bytes_places n = single_places (bytes_item n) (replicate n 0) (length-replicate {A = ℕ} n 0) (bytes_within n) (bytes_left n)

cell_size : Option (List ℕ) → ℕ
cell_size None = 4294967295
cell_size (Some bytes) = length bytes

cell_later : Option (List ℕ) → List (List ℕ)
cell_later None = []
cell_later (Some bytes) = bytes ∷ []

cell_value : Option (List ℕ) → List ℕ
cell_value None = []
cell_value (Some bytes) = bytes

cell_with : ℕ → List ℕ → Result (Option (List ℕ) × List ℕ) ℕ
cell_with n bytes = cond (eqb n 4294967295) (Ok (None, bytes)) (bytes_at n bytes >>= some_cell)

null_only : (n : ℕ) (cell : Option (List ℕ)) → n ≡ 4294967295 → IsCell cell × (cell_size cell ≡ n) → cell ≡ None
unfolding cell_size
null_only n None e h = refl
null_only n (Some bytes) e h = absurd (omega (arith, h.0, h.1))

some_goes : (n : ℕ) (cell : Option (List ℕ)) → n < 2 ^ 31 → IsCell cell × (cell_size cell ≡ n) → Goes (λ (bytes : List ℕ). bytes ∷ []) (λ bytes. length bytes ≡ n) cell_later (λ bytes. Some bytes) cell_value cell
unfolding cell_size cell_later cell_value
some_goes n None lt h = absurd (omega (arith, h.1))
some_goes n (Some bytes) lt h = record { fits = h.1; same = refl; spelled = refl }

with_null : (n : ℕ) (bytes : List ℕ) → n ≡ 4294967295 → cell_with n bytes ≡ Ok (None, bytes)
unfolding cell_with
with_null n bytes e = rw e refl

with_some : (n : ℕ) (bytes : List ℕ) → n < 2 ^ 31 → cell_with n bytes ≡ mapped (λ cell. Some cell) (bytes_at n bytes)
unfolding cell_with
with_some n bytes lt = let other : eqb n 4294967295 ≡ false = ne_eqb _ _ (λ e. absurd (omega arith)) in rw other refl

behind_size : (n : ℕ) → IsSize n → Places (cell_with n) cell_later (λ cell. IsCell cell × (cell_size cell ≡ n))
unfolding IsSize cell_size cell_later
behind_size n (inl e) = same_places (λ bytes. with_null n bytes e) (nothing_places None (tt, sym e) (λ cell h. null_only n cell e h) refl)
behind_size n (inr lt) =
    same_places (λ bytes. with_some n bytes lt)
    (map_places (λ (bytes : List ℕ). Some bytes) cell_value (bytes_places n) (λ bytes is. (omega (arith, is), is)) (λ cell h. some_goes n cell lt h) (λ bytes is. refl))

cell_parts : (cell : Option (List ℕ)) → IsCell cell → IsSize (cell_size cell) × (cell_fields cell ≡ (to_be_bytes w32 (cell_size cell) ∷ []) ++ cell_later cell)
unfolding IsSize cell_size cell_later
cell_parts None is = (inl refl, refl)
cell_parts (Some bytes) is = (inr is, refl)

cell_same : (bytes : List ℕ) → cell_at bytes ≡ (size_at bytes >>= λ x. cell_with x.0 x.1)
unfolding cell_at size_at cell_with
cell_same bytes = by (be_number_at w32 bytes) where
  chosen : (n : ℕ × List ℕ) (a b : Bool) → eqb n.0 4294967295 ≡ a → cond a (Ok (None, n.1)) (cond b (bytes_at n.0 n.1 >>= some_cell) (Err (length bytes)))
      ≡ (cond (a || b) (Ok n) (Err (length bytes)) >>= λ x. cond (eqb x.0 4294967295) (Ok (None, x.1)) (bytes_at x.0 x.1 >>= some_cell))
  chosen n true b e = rw e refl
  chosen n false true e = rw e refl
  chosen n false false e = refl

  by : (r : Result (ℕ × List ℕ) ℕ) → (r >>= cell_behind (length bytes)) ≡ ((r >>= λ n. cond (is_size n.0) (Ok n) (Err (length bytes))) >>= λ x. cond (eqb x.0 4294967295) (Ok (None, x.1)) (bytes_at x.0 x.1 >>= some_cell))
  by (Ok n) = chosen n (eqb n.0 4294967295) (ltb n.0 (2 ^ 31)) refl
  by (Err left) = refl

pub cell_places : Places cell_at cell_fields IsCell
cell_places = same_places cell_same (then_places {later = cell_later} cell_size cell_with size_places (λ n is. behind_size n is) (λ cell is. cell_parts cell is))

-- ---- columns

same_column : (f : Field) (name : List ℕ) (table attribute kind : ℕ) (size modifier : ℤ) → f.name ≡ name → f.table ≡ table → f.attribute ≡ attribute → f.kind ≡ kind → f.size ≡ size → f.modifier ≡ modifier
    → record { name = name; table = table; attribute = attribute; kind = kind; size = size; modifier = modifier; format = f.format } ≡ f
same_column f name table attribute kind size modifier a b c d e g = rw (← a, ← b, ← c, ← d, ← e, ← g) refl

abbrev made_column : List ℕ → ℕ → ℕ → ℕ → ℕ → ℕ → ℕ → Field
made_column name table attribute kind size modifier format =
    record { name = name; table = table; attribute = attribute; kind = kind; size = cast_signed w16 size; modifier = cast_signed w32 modifier; format = format }

pub column_places : Places field_at column_fields IsField
unfolding field_at
column_places =
    then_places {later = λ f. to_be_bytes w32 f.table ∷ to_be_bytes w16 f.attribute ∷ to_be_bytes w32 f.kind ∷ to_be_bytes w16 (cast_unsigned w16 f.size) ∷ to_be_bytes w32 (cast_unsigned w32 f.modifier) ∷ to_be_bytes w16 f.format ∷ []}
    (λ (f : Field). f.name) (λ name bytes. with_name (name, bytes)) text_places (λ name n.
    then_places {later = λ f. to_be_bytes w16 f.attribute ∷ to_be_bytes w32 f.kind ∷ to_be_bytes w16 (cast_unsigned w16 f.size) ∷ to_be_bytes w32 (cast_unsigned w32 f.modifier) ∷ to_be_bytes w16 f.format ∷ []}
    (λ (f : Field). f.table) (λ table bytes. with_table name (table, bytes)) word_places (λ table t.
    then_places {later = λ f. to_be_bytes w32 f.kind ∷ to_be_bytes w16 (cast_unsigned w16 f.size) ∷ to_be_bytes w32 (cast_unsigned w32 f.modifier) ∷ to_be_bytes w16 f.format ∷ []}
    (λ (f : Field). f.attribute) (λ attribute bytes. with_attribute name table (attribute, bytes)) count_places (λ attribute a.
    then_places {later = λ f. to_be_bytes w16 (cast_unsigned w16 f.size) ∷ to_be_bytes w32 (cast_unsigned w32 f.modifier) ∷ to_be_bytes w16 f.format ∷ []}
    (λ (f : Field). f.kind) (λ kind bytes. with_kind name table attribute (kind, bytes)) word_places (λ kind k.
    then_places {later = λ f. to_be_bytes w32 (cast_unsigned w32 f.modifier) ∷ to_be_bytes w16 f.format ∷ []}
    (λ (f : Field). cast_unsigned w16 f.size) (λ size bytes. with_size name table attribute kind (size, bytes)) count_places (λ size s.
    then_places {later = λ f. to_be_bytes w16 f.format ∷ []}
    (λ (f : Field). cast_unsigned w32 f.modifier) (λ modifier bytes. with_modifier name table attribute kind size (modifier, bytes)) word_places (λ modifier m.
    map_places (made_column name table attribute kind size modifier) (λ f. f.format) format_places
    (λ format is. ((((((record { name = n; table = t; attribute = a; kind = k; size = fits16 size s; modifier = fits32 modifier m; format = is }, refl), refl), refl), refl), of_z-to_z w16 size s), of_z-to_z w32 modifier m))
    (λ f h.
    let is = h.0.0.0.0.0.0 in record {
      fits = is.format;
      same = same_column f name table attribute kind (cast_signed w16 size) (cast_signed w32 modifier) h.0.0.0.0.0.1 h.0.0.0.0.1 h.0.0.0.1 h.0.0.1
          (sym (to_z-of_z w16 f.size is.size) ∙ ap (cast_signed w16) h.0.1) (sym (to_z-of_z w32 f.modifier is.modifier) ∙ ap (cast_signed w32) h.1);
      spelled = refl;
    })
    (λ format is. refl))
    (λ f h. ((Fits-of_z h.0.0.0.0.0.modifier).fits, refl)))
    (λ f h. ((Fits-of_z h.0.0.0.0.size).fits, refl)))
    (λ f h. (h.0.0.0.kind, refl)))
    (λ f h. (h.0.0.attribute, refl)))
    (λ f h. (h.0.table, refl)))
    (λ f h. (h.name, refl))
