-- A cell that was sealed opens to its value.
use Rattle.std.proofs.Common.{◌≡◌, ℕ, ◌+◌, ◌-◌, ◌^◌, ◌≤◌, ◌<◌, nat_le, ◌==◌, Bool, true, false, List, [], ◌∷◌, ◌++◌, length, take, drop, get_or, Option, Some, refl, sym, ap, ◌∙◌, append-nil, arith, if◌then◌else◌}
use Rattle.std.specs.Str.{IsUtf8, chars, encode_utf8_all}
use Rattle.std.specs.Option.{option_and_then}
use Rattle.std.specs.Int.{w32, from_le_bytes}
use Rattle.std.proofs.lemmas.Bool.{le-leb, lt-ltb}
use Rattle.std.proofs.lemmas.List.{take_at, drop_at, length-append, drop-drop, take-append-drop}
use Rattle.std.proofs.lemmas.Nat.{from_le_bytes-to_le_bytes_4}
use Rattle.std.proofs.lemmas.Str.{encodes-append, encodes-chars}
use Rattle.sha2.specs.Sha256.{sha256}
use Rattle.sha2.proofs.Facts256.{length-sha256}
use Rattle.acra_crypto.specs.Hmac.{inner_key, outer_key, hmac_sha256}
use Rattle.acra_block.specs.declared.kind.CellKind.{CellKind}
use Rattle.acra_block.specs.declared.kind.CellKind.TheVariants as kinds
use Rattle.acra_block.specs.declared.keys.KeyView.{KeyView}
use Rattle.acra_block.specs.declared.opening.Opened.TheVariants as answers
use Rattle.acra_block.specs.declared.container.Container.{Container}
use Rattle.acra_block.specs.declared.place.CellPlace.{CellPlace}
use Rattle.acra_block.specs.Keys.{Key, key_of}
use Rattle.acra_block.specs.Places.{extra_of}
use Rattle.acra_block.specs.Containers.{Sealing, Opening, container, container_of, opened_container}
use Rattle.acra_block.specs.Cells.{cut_list, cut, masked_head, IsCuttable, placed_container, cell, Parts, masked_parts, of_side, cell_parts, joined, rest_opened, key_found, container_found, parts_found, opened_cell}
use Rattle.acra_block.proofs.Formed.{is_form}
use Rattle.acra_block.proofs.Spelled.{sealed_parts, container_opens}

-- ---- what was cut

abbrev picked : {A : Type 0} → Bool → Bool → ℕ → List A → List A × List A
picked few left n xs = if few then ([], xs) else if left then (take n xs, drop n xs) else (drop (length xs - n) xs, take (length xs - n) xs)

abbrev two_ends : {A : Type 0} → Bool → List A × List A → List A
two_ends left parts = if left then parts.0 ++ parts.1 else parts.1 ++ parts.0

list_joined : {A : Type 0} (left : Bool) (n : ℕ) (xs : List A) → two_ends left (cut_list left n xs) ≡ xs
list_joined {A} left n xs = by left (nat_le (length xs) n) where
  by : (l few : Bool) → two_ends l (picked few l n xs) ≡ xs
  by true true = refl
  by true false = take-append-drop n xs
  by false true = append-nil xs
  by false false = take-append-drop (length xs - n) xs

coded_joined : (left : Bool) (xs ys : List ℕ) → joined left (encode_utf8_all xs) (encode_utf8_all ys) ≡ encode_utf8_all (two_ends left (xs, ys))
coded_joined true xs ys = sym (encodes-append xs ys)
coded_joined false xs ys = sym (encodes-append ys xs)

pub cut_joined : (left : Bool) (n : ℕ) (by_characters : Bool) (plain : List ℕ) → (by_characters ≡ true → IsUtf8 plain) → joined left (cut left n by_characters plain).0 (cut left n by_characters plain).1 ≡ plain
cut_joined left n true plain is =
    coded_joined left (cut_list left n (chars plain)).0 (cut_list left n (chars plain)).1 ∙ ap encode_utf8_all (list_joined left n (chars plain)) ∙ encodes-chars plain (is refl)
cut_joined left n false plain is = list_joined left n plain

joined_length : (left : Bool) (xs ys : List ℕ) → length (joined left xs ys) ≡ length xs + length ys
joined_length true xs ys = length-append xs ys
joined_length false xs ys = omega (arith, length-append ys xs)

-- ---- the head of a masked cell

same_side : (left : Bool) (plain sealed : List ℕ) → of_side left (record { left = left; plain = plain; sealed = sealed }) ≡ Some (record { left = left; plain = plain; sealed = sealed })
same_side true plain sealed = refl
same_side false plain sealed = refl

-- the parts of a masked cell, by each of its places
masked_by : (bytes : List ℕ) (n : ℕ) (left : Bool) (plain sealed : List ℕ) → from_le_bytes w32 (take 4 (drop 2 bytes)) ≡ n → nat_le 6 (length bytes) ≡ true → (get_or bytes 0 0 == 2) ≡ true
    → nat_le (get_or bytes 1 0) 1 ≡ true → nat_le (6 + n) (length bytes) ≡ true → (get_or bytes 1 0 == 0) ≡ left → take n (drop 6 bytes) ≡ plain → drop (6 + n) bytes ≡ sealed
    → masked_parts bytes ≡ Some (record { left = left; plain = plain; sealed = sealed })
masked_by bytes n left plain sealed told long mark side fits is_left before behind = rw told (rw long (rw mark (rw side (rw fits (rw is_left (rw before (rw behind refl)))))))

masked_again : (left : Bool) (plain sealed : List ℕ) → length plain < 2 ^ 32 → masked_parts (masked_head left plain ++ sealed) ≡ Some (record { left = left; plain = plain; sealed = sealed })
masked_again true plain sealed short =
    let bytes = masked_head true plain ++ sealed in
    let long : length bytes ≡ 6 + length (plain ++ sealed) = omega arith in
    masked_by bytes (length plain) true plain sealed (from_le_bytes-to_le_bytes_4 (length plain) short) (le-leb 6 (length bytes) (omega (arith, long))) refl refl (le-leb (6 + length plain) (length bytes) (omega (arith, long, length-append plain sealed))) refl
    (take_at plain sealed (length plain) refl) (sym (drop-drop (length plain) 6 bytes) ∙ drop_at plain sealed (length plain) refl)
masked_again false plain sealed short =
    let bytes = masked_head false plain ++ sealed in
    let long : length bytes ≡ 6 + length (plain ++ sealed) = omega arith in
    masked_by bytes (length plain) false plain sealed (from_le_bytes-to_le_bytes_4 (length plain) short) (le-leb 6 (length bytes) (omega (arith, long))) refl refl (le-leb (6 + length plain) (length bytes) (omega (arith, long, length-append plain sealed))) refl
    (take_at plain sealed (length plain) refl) (sym (drop-drop (length plain) 6 bytes) ∙ drop_at plain sealed (length plain) refl)

searched_by : (bytes sealed : List ℕ) → nat_le 33 (length bytes) ≡ true → (get_or bytes 0 0 == 1) ≡ true → drop 33 bytes ≡ sealed → cell_parts kinds.Searchable bytes ≡ Some (record { left = true; plain = []; sealed = sealed })
searched_by bytes sealed long mark behind = rw long (rw mark (rw behind refl))

searched_again : (index sealed : List ℕ) → length index ≡ 32 → cell_parts kinds.Searchable (1 ∷ index ++ sealed) ≡ Some (record { left = true; plain = []; sealed = sealed })
searched_again index sealed len = searched_by (1 ∷ index ++ sealed) sealed (le-leb 33 (length (1 ∷ index ++ sealed)) (omega (arith, len, length-append index sealed))) refl (drop_at index sealed 32 len)

hmac_length : (key text : List ℕ) → length (hmac_sha256 key text) ≡ 32
unfolding hmac_sha256
hmac_length key text = length-sha256 (outer_key key ++ sha256 (inner_key key ++ text))

-- ---- the whole

module _ (sealed : Sealing) (opened : Opening) (opens : (k n e p : List ℕ) → opened k n e (sealed k n e p) ≡ Some p)
    (only : (k n e s p : List ℕ) → opened k n e s ≡ Some p → s ≡ sealed k n e p) (longer : (k n e p : List ℕ) → length (sealed k n e p) ≡ length p + 16) where
  -- a container tells its id, its version and its length
  told : (extra : List ℕ) (version id : ℕ) (key drawn plain : List ℕ) → 1 ≤ version → version ≤ 2 → length drawn ≡ 56 → 1 ≤ id → id < 2 ^ 64 → length plain ≤ 2 ^ 18
      → container_of (container sealed extra version id key drawn plain) ≡ Some (record { id = id; version = version; length = length plain })
  told extra version id key drawn plain first last full least fits short =
      let bytes = container sealed extra version id key drawn plain in
      let p = sealed_parts sealed opened opens only longer extra version id key drawn plain bytes full refl in
      is_form bytes (record { id = id; version = version; length = length plain }) (
      record {
        least = least;
        fits = fits;
        first = first;
        last = last;
        short = short;
        long = omega (arith, p.long, longer (take 32 drawn) (take 12 (drop 44 drawn)) extra plain);
        head = p.head;
      }
      )

  module _ (place : CellPlace) (version : ℕ) (first : 1 ≤ version) (last : version ≤ 2) where
    -- the parts of a cell open to its value
    parts_open : (k : Key) (view : KeyView) (drawn rest : List ℕ) (left : Bool) (plain : List ℕ) → length rest ≤ 2 ^ 18 → length drawn ≡ 56 → 1 ≤ k.id → k.id < 2 ^ 64 → k.id < view.next_id → view.who ≡ k.owner
        → key_of k.id view.keys ≡ Some k.key
        → parts_found opened place view (Some (record { left = left; plain = plain; sealed = placed_container sealed place version k drawn rest })) ≡ (answers.Plain, joined left plain rest)
    parts_open k view drawn rest left plain short full least fits below who found =
        let extra = extra_of version place k.owner in
        let bytes = container sealed extra version k.id k.key drawn rest in
        let parts : Parts = record { left = left; plain = plain; sealed = bytes } in
        let c : Container = record { id = k.id; version = version; length = length rest } in
        let opens_to : opened_container opened (extra_of version place view.who) k.key bytes ≡ Some rest =
        ap (λ (w : List ℕ). opened_container opened (extra_of version place w) k.key bytes) who ∙ container_opens sealed opened opens only longer extra version k.id k.key drawn rest bytes full refl in
        ap (container_found opened place view parts) (told extra version k.id k.key drawn rest first last full least fits short)
        ∙ ap (λ (b : Bool). if b then key_found opened place view.who c parts (key_of k.id view.keys) else (answers.UnknownKey k.id, [])) (lt-ltb k.id view.next_id below)
        ∙ ap (key_found opened place view.who c parts) found
        ∙ ap (rest_opened parts) opens_to

    pub cell_opens : (kind : CellKind) (k : Key) (view : KeyView) (drawn plain : List ℕ) → length plain ≤ 2 ^ 18 → IsCuttable kind plain → length drawn ≡ 56 → 1 ≤ k.id → k.id < 2 ^ 64 → k.id < view.next_id → view.who ≡ k.owner
        → key_of k.id view.keys ≡ Some k.key → opened_cell opened kind place view (cell sealed kind place version k drawn plain) ≡ (answers.Plain, plain)
    cell_opens kinds.Sealed k view drawn plain short is full least fits below who found = parts_open k view drawn plain true [] short full least fits below who found
    cell_opens kinds.Searchable k view drawn plain short is full least fits below who found =
        ap (parts_found opened place view) (searched_again (hmac_sha256 k.search plain) (placed_container sealed place version k drawn plain) (hmac_length k.search plain))
        ∙ parts_open k view drawn plain true [] short full least fits below who found
    cell_opens (kinds.Masked left n by_characters) k view drawn plain short is full least fits below who found =
        let parts = cut left n by_characters plain in
        let whole : joined left parts.0 parts.1 ≡ plain = cut_joined left n by_characters plain is in
        let lengths : length parts.0 + length parts.1 ≡ length plain = sym (joined_length left parts.0 parts.1) ∙ ap length whole in
        let bytes = placed_container sealed place version k drawn parts.1 in
        let seen = masked_again left parts.0 bytes (omega (arith, lengths, short)) in
        ap (parts_found opened place view) (ap (λ (o : Option Parts). option_and_then (of_side left) o) seen ∙ same_side left parts.0 bytes)
        ∙ parts_open k view drawn parts.1 left parts.0 (omega (arith, lengths, short)) full least fits below who found ∙ ap (λ (p : List ℕ). (answers.Plain, p)) whole
