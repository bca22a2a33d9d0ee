-- Columns, cells and fields of errors that are read are those that were written, and what was written is read again.
use Rattle.std.proofs.Common.{◌≡◌, ℕ, zero, suc, ◌-◌, ◌^◌, ◌<◌, Bool, true, false, cond, eqb, ltb, List, [], ◌∷◌, ◌++◌, length, Option, Some, None, Result, Ok, Err, refl, sym, ap, subst, ◌∙◌, append_assoc, arith, inl, inr, ◌⊎◌, ℤ}
use Rattle.std.specs.Int.{w16, w32, to_be_bytes, cast_signed, cast_unsigned}
use Rattle.std.specs.Int.RustNames.{FitsSigned}
use Rattle.std.proofs.lemmas.Bool.{eqb-true, ne_eqb, ltb-true, lt-ltb}
use Rattle.std.proofs.lemmas.Int.{to_z-of_z, of_z-to_z}
use Rattle.std.proofs.Math.Facts.{sfits_to_z, Fits-of_z}
use Rattle.pg_wire.specs.declared.back.Field.{Field}
use Rattle.pg_wire.specs.declared.back.ErrorField.{ErrorField}
use Rattle.pg_wire.specs.declared.front.Pair.{Pair}
use Rattle.byte_reader.proofs.Widths.{be_wide16, be_wide32, number_takes, number_again}
use Rattle.byte_reader.proofs.Steps.{bind_ok, ok_is}
use Rattle.byte_reader.proofs.Taken.{IsBytes, Takes, Takes-then, bytes_take, bytes_again}
use Rattle.byte_reader.proofs.Texts.{str_takes, str_again, text_first}
use Rattle.byte_reader.specs.Fields.{IsText, str, ◌>>=◌, be_number_at, bytes_at, str_at}
use Rattle.pg_wire.specs.Parts.{pair_bytes, IsWord, IsFormat, IsCell, cell_bytes}
use Rattle.pg_wire.specs.Fronts.{IsParam}
use Rattle.pg_wire.specs.Backs.{IsField, field_bytes, IsErrorField, error_bytes}
use Rattle.pg_wire.specs.Bodies.{pair_at, format_at, field_at, cell_at, error_at}
use Rattle.pg_wire.proofs.Texts.{pair_takes, pair_again}
use Rattle.pg_wire.proofs.Items.{IsItem, IsListed}

abbrev ok_none : List ℕ → Result (Option (List ℕ) × List ℕ) ℕ
ok_none rest = Ok (None, rest)

-- a test that did not fail
pub kept_ok : {A : Type 0} (b : Bool) (d : ℕ) (x y : A) → cond b (Ok x) (Err d) ≡ Ok y → (b ≡ true) × (x ≡ y)
kept_ok true d x y e = (refl, cc)
kept_ok false d x y e = absurd cc

format_takes : (bytes : List ℕ) (x : ℕ × List ℕ) → IsBytes bytes → format_at bytes ≡ Ok x → Takes bytes (to_be_bytes w16 x.0) x.1 × (x.0 < 2)
unfolding format_at
format_takes bytes x fits e =
    let a = bind_ok (be_number_at w16 bytes) (λ n. cond (ltb n.0 2) (Ok n) (Err (length bytes))) x e in
    let g = kept_ok (ltb a.0.0 2) (length bytes) a.0 x a.2 in
    let t = number_takes w16 (2 ^ 16) be_wide16 bytes a.0 fits a.1 in
    subst (λ (y : ℕ × List ℕ). Takes bytes (to_be_bytes w16 y.0) y.1 × (y.0 < 2)) g.1 (t.0, ltb-true _ _ g.0)

format_again : (n : ℕ) (rest : List ℕ) → n < 2 → format_at (to_be_bytes w16 n ++ rest) ≡ Ok (n, rest)
unfolding format_at
format_again n rest lt = rw (number_again w16 (2 ^ 16) be_wide16 n rest (omega arith), lt-ltb n 2 lt) refl

-- ---- fields by themselves

pub str_item : IsItem str_at str IsText
str_item = record { takes = str_takes; again = str_again }

pub word_item : IsItem (be_number_at w32) (to_be_bytes w32) IsWord
word_item = record { takes = number_takes w32 (2 ^ 32) be_wide32; again = number_again w32 (2 ^ 32) be_wide32 }

pub format_item : IsItem format_at (to_be_bytes w16) IsFormat
format_item = record { takes = format_takes; again = format_again }

-- ---- columns

abbrev pub with_format : List ℕ → ℕ → ℕ → ℕ → ℕ → ℕ → ℕ × List ℕ → Result (Field × List ℕ) ℕ
with_format name table attribute kind size modifier format =
    Ok (record { name = name; table = table; attribute = attribute; kind = kind; size = cast_signed w16 size; modifier = cast_signed w32 modifier; format = format.0 }, format.1)

abbrev pub with_modifier : List ℕ → ℕ → ℕ → ℕ → ℕ → ℕ × List ℕ → Result (Field × List ℕ) ℕ
with_modifier name table attribute kind size modifier = format_at modifier.1 >>= with_format name table attribute kind size modifier.0

abbrev pub with_size : List ℕ → ℕ → ℕ → ℕ → ℕ × List ℕ → Result (Field × List ℕ) ℕ
with_size name table attribute kind size = be_number_at w32 size.1 >>= with_modifier name table attribute kind size.0

abbrev pub with_kind : List ℕ → ℕ → ℕ → ℕ × List ℕ → Result (Field × List ℕ) ℕ
with_kind name table attribute kind = be_number_at w16 kind.1 >>= with_size name table attribute kind.0

abbrev pub with_attribute : List ℕ → ℕ → ℕ × List ℕ → Result (Field × List ℕ) ℕ
with_attribute name table attribute = be_number_at w32 attribute.1 >>= with_kind name table attribute.0

abbrev pub with_table : List ℕ → ℕ × List ℕ → Result (Field × List ℕ) ℕ
with_table name table = be_number_at w16 table.1 >>= with_attribute name table.0

abbrev pub with_name : List ℕ × List ℕ → Result (Field × List ℕ) ℕ
with_name name = be_number_at w32 name.1 >>= with_table name.0

-- the spelling of a column, grouped as it is read
abbrev column : List ℕ → ℕ → ℕ → ℕ → ℕ → ℕ → ℕ → List ℕ
column name table attribute kind size modifier format =
    str name ++ (to_be_bytes w32 table ++ (to_be_bytes w16 attribute ++ (to_be_bytes w32 kind ++ (to_be_bytes w16 size ++ (to_be_bytes w32 modifier ++ to_be_bytes w16 format)))))

pub regroup7 : (a b c d e f g : List ℕ) → a ++ b ++ c ++ d ++ e ++ f ++ g ≡ a ++ (b ++ (c ++ (d ++ (e ++ (f ++ g)))))
regroup7 a b c d e f g = simp append_assoc

regroup8 : (a b c d e f g h : List ℕ) → (a ++ b ++ c ++ d ++ e ++ f ++ g) ++ h ≡ a ++ (b ++ (c ++ (d ++ (e ++ (f ++ (g ++ h))))))
regroup8 a b c d e f g h = simp append_assoc

column_is : (f : Field) → column f.name f.table f.attribute f.kind (cast_unsigned w16 f.size) (cast_unsigned w32 f.modifier) f.format ≡ field_bytes f
column_is f =
    sym (regroup7 (str f.name) (to_be_bytes w32 f.table) (to_be_bytes w16 f.attribute) (to_be_bytes w32 f.kind) (to_be_bytes w16 (cast_unsigned w16 f.size)) (to_be_bytes w32 (cast_unsigned w32 f.modifier)) (to_be_bytes w16 f.format))

pub fits16 : (n : ℕ) → n < 2 ^ 16 → FitsSigned w16 (cast_signed w16 n)
fits16 n lt = sfits_to_z (record { fits = lt })

pub fits32 : (n : ℕ) → n < 2 ^ 32 → FitsSigned w32 (cast_signed w32 n)
fits32 n lt = sfits_to_z (record { fits = lt })

field_takes : (bytes : List ℕ) (x : Field × List ℕ) → IsBytes bytes → field_at bytes ≡ Ok x → Takes bytes (field_bytes x.0) x.1 × IsField x.0
unfolding field_at
field_takes bytes x fits e =
    let a = bind_ok (str_at bytes) with_name x e in
    let b = bind_ok (be_number_at w32 a.0.1) (with_table a.0.0) x a.2 in
    let c = bind_ok (be_number_at w16 b.0.1) (with_attribute a.0.0 b.0.0) x b.2 in
    let d = bind_ok (be_number_at w32 c.0.1) (with_kind a.0.0 b.0.0 c.0.0) x c.2 in
    let f = bind_ok (be_number_at w16 d.0.1) (with_size a.0.0 b.0.0 c.0.0 d.0.0) x d.2 in
    let g = bind_ok (be_number_at w32 f.0.1) (with_modifier a.0.0 b.0.0 c.0.0 d.0.0 f.0.0) x f.2 in
    let h = bind_ok (format_at g.0.1) (with_format a.0.0 b.0.0 c.0.0 d.0.0 f.0.0 g.0.0) x g.2 in
    let ta = str_takes bytes a.0 fits a.1 in
    let tb = number_takes w32 (2 ^ 32) be_wide32 a.0.1 b.0 ta.0.rest_fits b.1 in
    let tc = number_takes w16 (2 ^ 16) be_wide16 b.0.1 c.0 tb.0.rest_fits c.1 in
    let td = number_takes w32 (2 ^ 32) be_wide32 c.0.1 d.0 tc.0.rest_fits d.1 in
    let tf = number_takes w16 (2 ^ 16) be_wide16 d.0.1 f.0 td.0.rest_fits f.1 in
    let tg = number_takes w32 (2 ^ 32) be_wide32 f.0.1 g.0 tf.0.rest_fits g.1 in
    let th = format_takes g.0.1 h.0 tg.0.rest_fits h.1 in
    let ph = to_be_bytes w16 h.0.0 in
    let pg = to_be_bytes w32 g.0.0 ++ ph in
    let pf = to_be_bytes w16 f.0.0 ++ pg in
    let pd = to_be_bytes w32 d.0.0 ++ pf in
    let pc = to_be_bytes w16 c.0.0 ++ pd in
    let pb = to_be_bytes w32 b.0.0 ++ pc in
    let ug = Takes-then f.0.1 (to_be_bytes w32 g.0.0) g.0.1 ph h.0.1 tg.0 th.0 in
    let uf = Takes-then d.0.1 (to_be_bytes w16 f.0.0) f.0.1 pg h.0.1 tf.0 ug in
    let ud = Takes-then c.0.1 (to_be_bytes w32 d.0.0) d.0.1 pf h.0.1 td.0 uf in
    let uc = Takes-then b.0.1 (to_be_bytes w16 c.0.0) c.0.1 pd h.0.1 tc.0 ud in
    let ub = Takes-then a.0.1 (to_be_bytes w32 b.0.0) b.0.1 pc h.0.1 tb.0 uc in
    let ua = Takes-then bytes (str a.0.0) a.0.1 pb h.0.1 ta.0 ub in
    let made : Field = record { name = a.0.0; table = b.0.0; attribute = c.0.0; kind = d.0.0; size = cast_signed w16 f.0.0; modifier = cast_signed w32 g.0.0; format = h.0.0 } in
    let spelled : column a.0.0 b.0.0 c.0.0 d.0.0 f.0.0 g.0.0 h.0.0 ≡ field_bytes made =
    ap (λ (n : ℕ). column a.0.0 b.0.0 c.0.0 d.0.0 n g.0.0 h.0.0) (sym (of_z-to_z w16 f.0.0 tf.1)) ∙ ap (λ (n : ℕ). column a.0.0 b.0.0 c.0.0 d.0.0 (cast_unsigned w16 made.size) n h.0.0) (sym (of_z-to_z w32 g.0.0 tg.1)) ∙ column_is made in
    let whole : Takes bytes (field_bytes made) h.0.1 = subst (λ (t : List ℕ). Takes bytes t h.0.1) spelled ua in
    let pair : Field × List ℕ = (made, h.0.1) in
    subst (λ (y : Field × List ℕ). Takes bytes (field_bytes y.0) y.1 × IsField y.0) (ok_is pair x h.2)
    (whole, record { name = ta.1; table = tb.1; attribute = tc.1; kind = td.1; size = fits16 f.0.0 tf.1; modifier = fits32 g.0.0 tg.1; format = th.1 })

field_again : (f : Field) (rest : List ℕ) → IsField f → field_at (field_bytes f ++ rest) ≡ Ok (f, rest)
unfolding field_at
field_again f rest is =
    let size = cast_unsigned w16 f.size in
    let modifier = cast_unsigned w32 f.modifier in
    let r6 = to_be_bytes w16 f.format ++ rest in
    let r5 = to_be_bytes w32 modifier ++ r6 in
    let r4 = to_be_bytes w16 size ++ r5 in
    let r3 = to_be_bytes w32 f.kind ++ r4 in
    let r2 = to_be_bytes w16 f.attribute ++ r3 in
    let r1 = to_be_bytes w32 f.table ++ r2 in
    let regrouped : field_bytes f ++ rest ≡ str f.name ++ r1 =
    regroup8 (str f.name) (to_be_bytes w32 f.table) (to_be_bytes w16 f.attribute) (to_be_bytes w32 f.kind) (to_be_bytes w16 size) (to_be_bytes w32 modifier) (to_be_bytes w16 f.format) rest in
    let e0 : str_at (field_bytes f ++ rest) ≡ Ok (f.name, r1) = ap str_at regrouped ∙ str_again f.name r1 is.name in
    let e1 = number_again w32 (2 ^ 32) be_wide32 f.table r2 is.table in
    let e2 = number_again w16 (2 ^ 16) be_wide16 f.attribute r3 is.attribute in
    let e3 = number_again w32 (2 ^ 32) be_wide32 f.kind r4 is.kind in
    let e4 = number_again w16 (2 ^ 16) be_wide16 size r5 (Fits-of_z is.size).fits in
    let e5 = number_again w32 (2 ^ 32) be_wide32 modifier r6 (Fits-of_z is.modifier).fits in
    let e6 = format_again f.format rest is.format in
    let s4 : cast_signed w16 size ≡ f.size = to_z-of_z w16 f.size is.size in
    let s5 : cast_signed w32 modifier ≡ f.modifier = to_z-of_z w32 f.modifier is.modifier in
    ap (λ (r : Result (List ℕ × List ℕ) ℕ). r >>= with_name) e0 ∙ ap (λ (r : Result (ℕ × List ℕ) ℕ). r >>= with_table f.name) e1
    ∙ ap (λ (r : Result (ℕ × List ℕ) ℕ). r >>= with_attribute f.name f.table) e2
    ∙ ap (λ (r : Result (ℕ × List ℕ) ℕ). r >>= with_kind f.name f.table f.attribute) e3
    ∙ ap (λ (r : Result (ℕ × List ℕ) ℕ). r >>= with_size f.name f.table f.attribute f.kind) e4
    ∙ ap (λ (r : Result (ℕ × List ℕ) ℕ). r >>= with_modifier f.name f.table f.attribute f.kind size) e5
    ∙ ap (λ (r : Result (ℕ × List ℕ) ℕ). r >>= with_format f.name f.table f.attribute f.kind size modifier) e6
    ∙ ap (λ (n : ℤ). Ok (record { name = f.name; table = f.table; attribute = f.attribute; kind = f.kind; size = n; modifier = cast_signed w32 modifier; format = f.format }, rest)) s4
    ∙ ap (λ (n : ℤ). Ok (record { name = f.name; table = f.table; attribute = f.attribute; kind = f.kind; size = f.size; modifier = n; format = f.format }, rest)) s5

pub field_item : IsItem field_at field_bytes IsField
field_item = record { takes = field_takes; again = field_again }

-- ---- cells

-- which way a test went
chosen : {A : Type 0} (b : Bool) (x y z : A) → cond b x y ≡ z → ((b ≡ true) × (x ≡ z)) ⊎ ((b ≡ false) × (y ≡ z))
chosen true x y z e = inl (refl, e)
chosen false x y z e = inr (refl, e)

abbrev pub some_cell : List ℕ × List ℕ → Result (Option (List ℕ) × List ℕ) ℕ
some_cell cell = Ok (Some cell.0, cell.1)

abbrev pub sized_cell : ℕ → ℕ × List ℕ → Result (Option (List ℕ) × List ℕ) ℕ
sized_cell len n = cond (ltb n.0 (2 ^ 31)) (bytes_at n.0 n.1 >>= some_cell) (Err len)

abbrev pub cell_behind : ℕ → ℕ × List ℕ → Result (Option (List ℕ) × List ℕ) ℕ
cell_behind len n = cond (eqb n.0 4294967295) (Ok (None, n.1)) (sized_cell len n)

kept_bind : {A : Type 0} (b : Bool) (r : Result A ℕ) (d : ℕ) (y : A) → cond b r (Err d) ≡ Ok y → (b ≡ true) × (r ≡ Ok y)
kept_bind true r d y e = (refl, e)
kept_bind false r d y e = absurd cc

null_takes : (bytes rest : List ℕ) (n : ℕ) (x : Option (List ℕ) × List ℕ) → n ≡ 4294967295 → Takes bytes (to_be_bytes w32 n) rest → ok_none rest ≡ Ok x → Takes bytes (cell_bytes x.0) x.1 × IsCell x.0
null_takes bytes rest n x e t h =
    subst (λ (y : Option (List ℕ) × List ℕ). Takes bytes (cell_bytes y.0) y.1 × IsCell y.0) (ok_is (None, rest) x h) (subst (λ (k : ℕ). Takes bytes (to_be_bytes w32 k) rest) e t, tt)

sized_takes : (bytes : List ℕ) (n : ℕ × List ℕ) (len : ℕ) (x : Option (List ℕ) × List ℕ) → Takes bytes (to_be_bytes w32 n.0) n.1 → sized_cell len n ≡ Ok x → Takes bytes (cell_bytes x.0) x.1 × IsCell x.0
sized_takes bytes n len x t e =
    let g = kept_bind (ltb n.0 (2 ^ 31)) (bytes_at n.0 n.1 >>= some_cell) len x e in
    let b = bind_ok (bytes_at n.0 n.1) some_cell x g.1 in
    let u = bytes_take n.0 n.1 b.0 t.rest_fits b.1 in
    let both = Takes-then bytes (to_be_bytes w32 n.0) n.1 b.0.0 b.0.1 t u.0 in
    let whole : Takes bytes (cell_bytes (Some b.0.0)) b.0.1 = subst (λ (k : ℕ). Takes bytes (to_be_bytes w32 k ++ b.0.0) b.0.1) (sym u.1) both in
    subst (λ (y : Option (List ℕ) × List ℕ). Takes bytes (cell_bytes y.0) y.1 × IsCell y.0) (ok_is (Some b.0.0, b.0.1) x b.2) (whole, omega (arith, ltb-true _ _ g.0, u.1))

cell_takes : (bytes : List ℕ) (x : Option (List ℕ) × List ℕ) → IsBytes bytes → cell_at bytes ≡ Ok x → Takes bytes (cell_bytes x.0) x.1 × IsCell x.0
unfolding cell_at
cell_takes bytes x fits e =
    let a = bind_ok (be_number_at w32 bytes) (cell_behind (length bytes)) x e in
    let t = number_takes w32 (2 ^ 32) be_wide32 bytes a.0 fits a.1 in
    elim (chosen (eqb a.0.0 4294967295) (ok_none a.0.1) (sized_cell (length bytes) a.0) (Ok x) a.2) [
      | inl h ↦ null_takes bytes a.0.1 a.0.0 x (eqb-true _ _ h.0) t.0 h.1
      | inr h ↦ sized_takes bytes a.0 (length bytes) x t.0 h.1
    ]

cell_again : (cell : Option (List ℕ)) (rest : List ℕ) → IsCell cell → cell_at (cell_bytes cell ++ rest) ≡ Ok (cell, rest)
unfolding cell_at
cell_again None rest is = ap (λ (r : Result (ℕ × List ℕ) ℕ). r >>= cell_behind (length (cell_bytes None ++ rest))) (number_again w32 (2 ^ 32) be_wide32 4294967295 rest (omega arith))
cell_again (Some cell) rest is =
    let len = length (cell_bytes (Some cell) ++ rest) in
    let n = length cell in
    let regrouped : cell_bytes (Some cell) ++ rest ≡ to_be_bytes w32 n ++ (cell ++ rest) = append_assoc (to_be_bytes w32 n) cell rest in
    let one : be_number_at w32 (cell_bytes (Some cell) ++ rest) ≡ Ok (n, cell ++ rest) = ap (be_number_at w32) regrouped ∙ number_again w32 (2 ^ 32) be_wide32 n (cell ++ rest) (omega arith) in
    let other : eqb n 4294967295 ≡ false = ne_eqb _ _ (λ e. absurd (omega arith)) in
    let small : ltb n (2 ^ 31) ≡ true = lt-ltb _ _ is in
    ap (λ (r : Result (ℕ × List ℕ) ℕ). r >>= cell_behind len) one ∙ rw (other, small, bytes_again (length cell) cell rest refl) refl

pub cell_item : IsItem cell_at cell_bytes IsCell
cell_item = record { takes = cell_takes; again = cell_again }

-- ---- fields of errors

error_takes : (b : ℕ) (bytes : List ℕ) (x : ErrorField × List ℕ) → IsBytes (suc b ∷ bytes) → error_at (suc b ∷ bytes) ≡ Ok x → Takes (suc b ∷ bytes) (error_bytes x.0) x.1 × IsErrorField x.0
unfolding error_at
error_takes b bytes x fits e =
    let a = bind_ok (str_at bytes) (λ text. Ok (record { code = suc b; text = text.0 }, text.1)) x e in
    let t = str_takes bytes a.0 (λ i. fits (suc i)) a.1 in
    let whole : Takes (suc b ∷ bytes) (suc b ∷ str a.0.0) a.0.1 = record { parts = ap (λ (w : List ℕ). suc b ∷ w) t.0.parts; rest_fits = t.0.rest_fits } in
    let made : ErrorField × List ℕ = (record { code = suc b; text = a.0.0 }, a.0.1) in
    subst (λ (y : ErrorField × List ℕ). Takes (suc b ∷ bytes) (error_bytes y.0) y.1 × IsErrorField y.0) (ok_is made x a.2) (whole, (omega arith, fits 0, t.1))

error_again : (x : ErrorField) (rest : List ℕ) → IsErrorField x → error_at (error_bytes x ++ rest) ≡ Ok (x, rest)
unfolding error_at
error_again x rest is = rw (str_again x.text rest is.2) refl

error_begins : (x : ErrorField) → IsErrorField x → (b : ℕ) × (tail : List ℕ) × (error_bytes x ≡ suc b ∷ tail)
error_begins x is =
    let one : x.code ≡ suc (x.code - 1) = omega (arith, is.0) in
    (x.code - 1, str x.text, ap (λ (n : ℕ). n ∷ str x.text) one)

pub error_item : IsListed error_at error_bytes IsErrorField
error_item = record { takes = error_takes; again = error_again; begins = error_begins }

-- ---- parameters

no_name : (b : ℕ) (bytes name value rest : List ℕ) → suc b ∷ bytes ≡ (str name ++ str value) ++ rest → name ≡ [] → ⊥
no_name b bytes name value rest parts e =
    let zeros : suc b ∷ bytes ≡ 0 ∷ (str value ++ rest) = parts ∙ ap (λ (n : List ℕ). (str n ++ str value) ++ rest) e in
    absurd cc

param_takes : (b : ℕ) (bytes : List ℕ) (x : Pair × List ℕ) → IsBytes (suc b ∷ bytes) → pair_at (suc b ∷ bytes) ≡ Ok x → Takes (suc b ∷ bytes) (pair_bytes x.0) x.1 × IsParam x.0
param_takes b bytes x fits e =
    let t = pair_takes (suc b ∷ bytes) x fits e in
    (t.0, (no_name b bytes x.0.name x.0.value x.1 t.0.parts, t.1))

text_begins : (name value : List ℕ) → (name ≡ [] → ⊥) → IsText name → (b : ℕ) × (tail : List ℕ) × (str name ++ str value ≡ suc b ∷ tail)
text_begins [] value some is = absurd (some refl)
text_begins (zero ∷ name) value some is = absurd (text_first 0 name is refl)
text_begins (suc b ∷ name) value some is = (b, str name ++ str value, refl)

param_again : (p : Pair) (rest : List ℕ) → IsParam p → pair_at (pair_bytes p ++ rest) ≡ Ok (p, rest)
param_again p rest is = pair_again p rest is.1

param_begins : (p : Pair) → IsParam p → (b : ℕ) × (tail : List ℕ) × (pair_bytes p ≡ suc b ∷ tail)
param_begins p is = text_begins p.name p.value is.0 is.1.0

pub param_item : IsListed pair_at pair_bytes IsParam
param_item = record { takes = param_takes; again = param_again; begins = param_begins }
