-- What is shown of a message can be written: it is no longer than the message.
use Rattle.std.proofs.Common.{◌≡◌, ℕ, ◌≤◌, nat_eq, nat_lt, Bool, true, false, List, [], ◌∷◌, length, take, drop, Option, Some, None, Result, Ok, Err, lit<, suc, rules, refl, ap, ◌∙◌, arith, if◌then◌else◌}
use Rattle.std.specs.List.{AllByRecursion, flat_map}
use Rattle.std.specs.Result.{result_ok}
use Rattle.std.specs.Cmp.Lexicographic.{pointwise}
use Rattle.std.specs.Int.{w32, to_be_bytes}
use Rattle.std.proofs.lemmas.Option.{option_and_then_some}
use Rattle.std.proofs.lemmas.List.{length-append, length-drop}
use Rattle.hex.specs.Hex.{decode_of}
use Rattle.hex.specs.declared.FromHexError.{FromHexError}
use Rattle.hex.proofs.HexLemmas.{decode_of-ok}
use Rattle.acra_crypto.specs.Aes.{aes256}
use Rattle.acra_crypto.specs.Sealed.{gcm_only, length-gcm_sealed}
use Rattle.acra_block.specs.declared.container.Container.{Container}
use Rattle.acra_block.specs.declared.keys.KeyView.{KeyView}
use Rattle.acra_block.specs.declared.opening.Opened.TheVariants as answers
use Rattle.acra_block.specs.Keys.{key_of}
use Rattle.acra_block.specs.Places.{extra_of}
use Rattle.acra_block.specs.Containers.{container_of, opened_key, opened_value, opened_container}
use Rattle.acra_block.specs.Cells.{Parts, rest_opened, key_found, container_found}
use Rattle.pg_wire.specs.declared.back.Field.{Field}
use Rattle.pg_wire.specs.declared.back.Back.{Back}
use Rattle.pg_wire.specs.declared.back.Back.TheVariants as backs
use Rattle.pg_wire.specs.Backs.{IsField, field_bytes, IsCell, cell_bytes}
use Rattle.machine_replies.specs.Replies.{IsWritable}
use Rattle.lab_backend.proofs.Lengths.{length-field_bytes}
use Rattle.session_model.specs.Shown.{as_text, where_protected, opened_or, shown_cell, shown_message}
use Rattle.lab_session.specs.Cells.{opening, notes_body, text_bytes, value_of, value_in, opened_by}

-- ---- what opens is shorter than its text

decoded : (r : Result (List ℕ) FromHexError) (bytes : List ℕ) → result_ok r ≡ Some bytes → r ≡ Ok bytes
decoded (Ok found) bytes e = cc
decoded (Err why) bytes e = absurd cc

container_shorter : (owner key bytes plain : List ℕ) → opened_container opening owner key bytes ≡ Some plain → length plain ≤ length bytes
container_shorter owner key bytes plain e =
    option_and_then_some (opened_value opening owner bytes) (opened_key opening owner key bytes) plain e (λ (data_key : List ℕ) k v. value data_key v)
  where
    value : (data_key : List ℕ) → opened_value opening owner bytes data_key ≡ Some plain → length plain ≤ length bytes
    value data_key v =
        let seal = gcm_only (aes256 data_key) (take 12 (drop 84 bytes)) owner (drop 96 bytes) plain v in
        omega (arith, ap length seal, length-gcm_sealed (aes256 data_key) (take 12 (drop 84 bytes)) owner plain, length-drop 96 bytes)

-- ---- by what a sealed cell opens to

abbrev whole_parts : List ℕ → Parts
whole_parts bytes = record { left = true; plain = []; sealed = bytes }

rest_shorter : (extra key bytes plain : List ℕ) (found : Option (List ℕ)) → opened_container opening extra key bytes ≡ found → value_of (rest_opened (whole_parts bytes) found) ≡ Some plain → length plain ≤ length bytes
rest_shorter extra key bytes plain (Some rest) e h = container_shorter extra key bytes plain (e ∙ h)
rest_shorter extra key bytes plain None e h = absurd cc

key_shorter : (owner bytes plain : List ℕ) (c : Container) (found : Option (List ℕ)) → value_of (key_found opening notes_body owner c (whole_parts bytes) found) ≡ Some plain → length plain ≤ length bytes
key_shorter owner bytes plain c (Some key) h = let extra = extra_of c.version notes_body owner in rest_shorter extra key bytes plain (opened_container opening extra key bytes) refl h
key_shorter owner bytes plain c None h = absurd cc

told_shorter : (view : KeyView) (bytes plain : List ℕ) (found : Option Container) → value_of (container_found opening notes_body view (whole_parts bytes) found) ≡ Some plain → length plain ≤ length bytes
told_shorter view bytes plain None h = absurd cc
told_shorter view bytes plain (Some c) h = by (nat_lt c.id view.next_id) h
  where
    by : (b : Bool) → value_of (if b then key_found opening notes_body view.who c (whole_parts bytes) (key_of c.id view.keys) else (answers.UnknownKey c.id, [])) ≡ Some plain → length plain ≤ length bytes
    by true k = key_shorter view.who bytes plain c (key_of c.id view.keys) k
    by false k = absurd cc

value_shorter : (view : KeyView) (bytes plain : List ℕ) → value_in view bytes ≡ Some plain → length plain ≤ length bytes
value_shorter view bytes plain h = told_shorter view bytes plain (container_of bytes) h

bytes_shorter : (text cell : List ℕ) → text_bytes text ≡ Some cell → length cell ≤ length text
bytes_shorter text cell e = by (pointwise nat_eq (take 2 text) (92 ∷ 120 ∷ [])) e
  where
    by : (b : Bool) → (if b then result_ok (decode_of (drop 2 text)) else None) ≡ Some cell → length cell ≤ length text
    by true o = let d = decode_of-ok (drop 2 text) cell (decoded (decode_of (drop 2 text)) cell o) in omega (arith, d.2, length-drop 2 text)
    by false o = absurd cc

pub opened_shorter : (keys : KeyView) (text plain : List ℕ) → opened_by keys text ≡ Some plain → length plain ≤ length text
opened_shorter keys text plain e =
    option_and_then_some (value_in keys) (text_bytes text) plain e (λ (cell : List ℕ) t o. omega (arith, bytes_shorter text cell t, value_shorter keys cell plain o))

-- ---- cells

opened_or_shorter : (keys : KeyView) (text : List ℕ) (found : Option (List ℕ)) → ((plain : List ℕ) → found ≡ Some plain → length plain ≤ length text) → length (opened_or (opened_by keys) text found) ≤ length text
opened_or_shorter keys text None h = omega arith
opened_or_shorter keys text (Some plain) h = h plain refl

text_shorter : (keys : KeyView) (text : List ℕ) → length (opened_or (opened_by keys) text (opened_by keys text)) ≤ length text
text_shorter keys text = opened_or_shorter keys text (opened_by keys text) (λ plain e. opened_shorter keys text plain e)

cell_stays : (keys : KeyView) (c : Option (List ℕ)) → IsCell c → IsCell (shown_cell (opened_by keys) c)
cell_stays keys None h = tt
cell_stays keys (Some text) h = omega (arith, text_shorter keys text)

be_4 : (n : ℕ) → length (to_be_bytes w32 n) ≡ 4
be_4 n = refl

cell_shorter : (keys : KeyView) (c : Option (List ℕ)) → length (cell_bytes (shown_cell (opened_by keys) c)) ≤ length (cell_bytes c)
cell_shorter keys None = omega arith
cell_shorter keys (Some text) =
    let shown = opened_or (opened_by keys) text (opened_by keys text) in
    omega (arith, text_shorter keys text, length-append (to_be_bytes w32 (length shown)) shown, length-append (to_be_bytes w32 (length text)) text, be_4 (length shown), be_4 (length text))

-- ---- a change of items at protected places

module _ {A : Type 0} (change : A → A) where
  as_many : (ps : List Bool) (items : List A) → length (where_protected change ps items) ≡ length items
  as_many [] items = refl
  as_many (p ∷ ps) [] = refl
  as_many (p ∷ ps) (item ∷ items) = ap suc (as_many ps items)

  either : (P : A → Type 0) → ((item : A) → P item → P (change item)) → (p : Bool) (item : A) → P item → P (if p then change item else item)
  either P keeps true item h = keeps item h
  either P keeps false item h = h

  all_stay : (P : A → Type 0) → ((item : A) → P item → P (change item)) → (ps : List Bool) (items : List A) → AllByRecursion P items → AllByRecursion P (where_protected change ps items)
  all_stay P keeps [] items h = h
  all_stay P keeps (p ∷ ps) [] h = tt
  all_stay P keeps (p ∷ ps) (item ∷ items) h = (either P keeps p item h.0, all_stay P keeps ps items h.1)

  one_shorter : (bytes : A → List ℕ) → ((item : A) → length (bytes (change item)) ≤ length (bytes item)) → (p : Bool) (item : A) → length (bytes (if p then change item else item)) ≤ length (bytes item)
  one_shorter bytes keeps true item = keeps item
  one_shorter bytes keeps false item = omega arith

  all_shorter : (bytes : A → List ℕ) → ((item : A) → length (bytes (change item)) ≤ length (bytes item)) → (ps : List Bool) (items : List A) → length (flat_map bytes (where_protected change ps items)) ≤ length (flat_map bytes items)
  all_shorter bytes keeps [] items = omega arith
  all_shorter bytes keeps (p ∷ ps) [] = omega arith
  all_shorter bytes keeps (p ∷ ps) (item ∷ items) =
      let new = if p then change item else item in
      omega (arith, one_shorter bytes keeps p item, all_shorter bytes keeps ps items, length-append (bytes new) (flat_map bytes (where_protected change ps items)), length-append (bytes item) (flat_map bytes items))

-- ---- fields

field_stays : (f : Field) → IsField f → IsField (as_text f)
field_stays f h = record { name = h.name; table = h.table; attribute = h.attribute; kind = lit< tt; size = search rules; modifier = h.modifier; format = h.format }

field_shorter : (f : Field) → length (field_bytes (as_text f)) ≤ length (field_bytes f)
field_shorter f = omega (arith, length-field_bytes f, length-field_bytes (as_text f))

-- ---- messages

pub shown_writable : (keys : KeyView) (ps : List Bool) (m : Back) → IsWritable m → IsWritable (shown_message (opened_by keys) ps m)
shown_writable keys ps (backs.Row fields) w = record {
  spelled = (omega (arith, w.spelled.0, as_many as_text ps fields), all_stay as_text IsField field_stays ps fields w.spelled.1);
  short = let same = all_shorter as_text field_bytes field_shorter ps fields in omega (arith, w.short);
}
shown_writable keys ps (backs.Cells cells) w = record {
  spelled = (omega (arith, w.spelled.0, as_many (shown_cell (opened_by keys)) ps cells), all_stay (shown_cell (opened_by keys)) IsCell (cell_stays keys) ps cells w.spelled.1);
  short = let same = all_shorter (shown_cell (opened_by keys)) cell_bytes (cell_shorter keys) ps cells in omega (arith, w.short);
}
shown_writable keys ps (backs.Auth code rest) w = w
shown_writable keys ps (backs.Status pair) w = w
shown_writable keys ps (backs.KeyData process key) w = w
shown_writable keys ps (backs.Ready b) w = w
shown_writable keys ps (backs.Complete tag) w = w
shown_writable keys ps backs.EmptyQuery w = w
shown_writable keys ps (backs.Error fields) w = w
shown_writable keys ps (backs.Notice fields) w = w
shown_writable keys ps backs.ParseDone w = w
shown_writable keys ps backs.BindDone w = w
shown_writable keys ps backs.CloseDone w = w
shown_writable keys ps backs.NoData w = w
shown_writable keys ps (backs.Params types) w = w
shown_writable keys ps backs.Suspended w = w
