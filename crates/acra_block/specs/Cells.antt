-- Cells: what is stored for a value of a protected column.
use Rattle.std.specs.Prelude.{ℕ, ◌≡◌, Bool, true, false, ◌+◌, ◌-◌, nat_le, nat_lt, ◌==◌, ◌&&◌, if◌then◌else◌, List, [], ◌∷◌, ◌++◌, length, take, drop, get_or, Option, Some, None, option_map}
use Rattle.std.specs.Option.{option_and_then}
use Rattle.std.specs.Int.{w32, to_le_bytes, from_le_bytes}
use Rattle.std.specs.Str.{IsUtf8, chars, encode_utf8_all}
use Rattle.acra_crypto.specs.Hmac.{hmac_sha256}
use Rattle.acra_block.specs.declared.kind.CellKind.{CellKind}
use Rattle.acra_block.specs.declared.kind.CellKind.TheVariants as kinds
use Rattle.acra_block.specs.declared.container.Container.{Container}
use Rattle.acra_block.specs.declared.parts.Parts as declared
use Rattle.acra_block.specs.declared.parts.PlainPart.{PlainPart}
use Rattle.acra_block.specs.declared.keys.KeyView.{KeyView}
use Rattle.acra_block.specs.declared.opening.Opened.{Opened}
use Rattle.acra_block.specs.declared.opening.Opened.TheVariants as answers
use Rattle.acra_block.specs.declared.place.CellPlace.{CellPlace}
use Rattle.acra_block.specs.Keys.{Key, key_of}
use Rattle.acra_block.specs.Places.{extra_of}
use Rattle.acra_block.specs.Containers.{Sealing, Opening, container, container_of, opened_container}

-- ---- sealing

abbrev pub blind_index : List ℕ → List ℕ → List ℕ
blind_index search plain = 1 ∷ hmac_sha256 search plain

-- n items of the left or of the right end, and the others; nothing where there are no more than n
abbrev pub cut_list : {A : Type 0} → Bool → ℕ → List A → List A × List A
cut_list left n xs =
    if nat_le (length xs) n then ([], xs)
    else if left then (take n xs, drop n xs)
    else (drop (length xs - n) xs, take (length xs - n) xs)

-- the plain part of a value and the rest of it, cut by characters or by bytes
abbrev pub cut : Bool → ℕ → Bool → List ℕ → List ℕ × List ℕ
cut left n true plain = let parts = cut_list left n (chars plain) in (encode_utf8_all parts.0, encode_utf8_all parts.1)
cut left n false plain = cut_list left n plain

-- a mark, the side, the length of the plain part in bytes, little-endian, and the plain part
abbrev pub masked_head : Bool → List ℕ → List ℕ
masked_head left plain = 2 ∷ (if left then 0 else 1) ∷ to_le_bytes w32 (length plain) ++ plain

-- characters are cut of a text of UTF-8 alone
abbrev pub IsCuttable : CellKind → List ℕ → Type 0
IsCuttable (kinds.Masked left n chars) plain = chars ≡ true → IsUtf8 plain
IsCuttable kinds.Sealed plain = Unit {0}
IsCuttable kinds.Searchable plain = Unit {0}

-- the container of a value in its place
abbrev pub placed_container : Sealing → CellPlace → ℕ → Key → List ℕ → List ℕ → List ℕ
placed_container sealed place version k drawn plain = container sealed (extra_of version place k.owner) version k.id k.key drawn plain

-- the cell of a value in its place, with 56 drawn bytes
abbrev pub cell : Sealing → CellKind → CellPlace → ℕ → Key → List ℕ → List ℕ → List ℕ
cell sealed kinds.Sealed place version k drawn plain = placed_container sealed place version k drawn plain
cell sealed kinds.Searchable place version k drawn plain = blind_index k.search plain ++ placed_container sealed place version k drawn plain
cell sealed (kinds.Masked left n chars) place version k drawn plain =
    let parts = cut left n chars plain in
    masked_head left parts.0 ++ placed_container sealed place version k drawn parts.1

-- ---- the form

-- the parts of a cell: the side of the plain part, that part, and what stands in the container's place
pub record Parts : Type 0 where
  pub left : Bool
  pub plain : List ℕ
  pub sealed : List ℕ

abbrev pub shown_parts : declared.Parts → Parts
shown_parts p = record { left = p.left; plain = p.plain.now; sealed = p.sealed.now }

-- the parts of a masked cell of either side
abbrev pub masked_parts : List ℕ → Option Parts
masked_parts bytes =
    let n = from_le_bytes w32 (take 4 (drop 2 bytes)) in
    if nat_le 6 (length bytes) && (get_or bytes 0 0 == 2) && nat_le (get_or bytes 1 0) 1 && nat_le (6 + n) (length bytes)
    then Some (record { left = get_or bytes 1 0 == 0; plain = take n (drop 6 bytes); sealed = drop (6 + n) bytes })
    else None

abbrev pub of_side : Bool → Parts → Option Parts
of_side true parts = if parts.left then Some parts else None
of_side false parts = if parts.left then None else Some parts

-- the parts of a cell of a kind
abbrev pub cell_parts : CellKind → List ℕ → Option Parts
cell_parts kinds.Sealed bytes = Some (record { left = true; plain = []; sealed = bytes })
cell_parts kinds.Searchable bytes =
    if nat_le 33 (length bytes) && (get_or bytes 0 0 == 1) then Some (record { left = true; plain = []; sealed = drop 33 bytes }) else None
cell_parts (kinds.Masked left n chars) bytes = option_and_then (of_side left) (masked_parts bytes)

-- the id of the key that sealed a cell of the kind
abbrev pub named_key : CellKind → List ℕ → Option ℕ
named_key kind bytes = option_and_then (λ (p : Parts). option_map (λ (c : Container). c.id) (container_of p.sealed)) (cell_parts kind bytes)

-- the version of a cell's container
abbrev pub version_of : CellKind → List ℕ → Option ℕ
version_of kind bytes = option_and_then (λ (p : Parts). option_map (λ (c : Container). c.version) (container_of p.sealed)) (cell_parts kind bytes)

-- where the plain part of a masked cell stands
abbrev pub clear_part : List ℕ → Option PlainPart
clear_part bytes =
    option_and_then (λ (p : Parts). option_map (λ (c : Container). record { left = p.left; start = 6; end = 6 + length p.plain }) (container_of p.sealed)) (masked_parts bytes)

-- ---- opening

-- the value of which these are the plain part and the rest
abbrev pub joined : Bool → List ℕ → List ℕ → List ℕ
joined left plain rest = if left then plain ++ rest else rest ++ plain

-- by what the container opens to
abbrev pub rest_opened : Parts → Option (List ℕ) → Opened × List ℕ
rest_opened parts (Some rest) = (answers.Plain, joined parts.left parts.plain rest)
rest_opened parts None = (answers.Broken, [])

-- by the key that is named, with the extra of the container's version for this place
abbrev pub key_found : Opening → CellPlace → List ℕ → Container → Parts → Option (List ℕ) → Opened × List ℕ
key_found opened place who c parts (Some key) = rest_opened parts (opened_container opened (extra_of c.version place who) key parts.sealed)
key_found opened place who c parts None = (answers.Foreign, [])

-- by what the container tells
abbrev pub container_found : Opening → CellPlace → KeyView → Parts → Option Container → Opened × List ℕ
container_found opened place view parts (Some c) =
    if nat_lt c.id view.next_id then key_found opened place view.who c parts (key_of c.id view.keys)
    else (answers.UnknownKey c.id, [])
container_found opened place view parts None = (answers.Broken, [])

-- by the form of the kind
abbrev pub parts_found : Opening → CellPlace → KeyView → Option Parts → Opened × List ℕ
parts_found opened place view (Some parts) = container_found opened place view parts (container_of parts.sealed)
parts_found opened place view None = (answers.Broken, [])

-- what a cell of this place opens to, and its value where it is Plain
abbrev pub opened_cell : Opening → CellKind → CellPlace → KeyView → List ℕ → Opened × List ℕ
opened_cell opened kind place view bytes = parts_found opened place view (cell_parts kind bytes)

-- what is answered, and what stands in the output then
abbrev pub Answers : Opened × List ℕ → Opened → List ℕ → List ℕ → Type 0
Answers found answer old new = (answer ≡ found.0) × (new ≡ old ++ found.1)
