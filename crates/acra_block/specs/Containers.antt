-- Containers, version 1 or 2: a value sealed under a data key, which is sealed under the owner's key. A plaintext of n
-- bytes makes 112 + n bytes.
use Rattle.std.specs.Prelude.{ℕ, ◌≡◌, Bool, ◌+◌, ◌-◌, ◌^◌, ◌≤◌, ◌<◌, nat_le, nat_eq, slice_index, ◌&&◌, if◌then◌else◌, List, ◌∷◌, ◌++◌, length, take, drop, Option, Some, None}
use Rattle.std.specs.Option.{option_and_then}
use Rattle.std.specs.Cmp.Lexicographic.{pointwise}
use Rattle.std.specs.Int.{w16, w64, to_le_bytes, from_le_bytes}
use Rattle.acra_crypto.specs.Bytes.{AreBytes}
use Rattle.acra_block.specs.declared.container.Container.{Container}

-- the seal of a value, by key, nonce, extra and value
abbrev pub Sealing : Type 0
Sealing = List ℕ → List ℕ → List ℕ → List ℕ → List ℕ

-- what a seal opens to, by key, nonce, extra and seal
abbrev pub Opening : Type 0
Opening = List ℕ → List ℕ → List ℕ → List ℕ → Option (List ℕ)

-- the first 24 bytes: a mark, the length of all but the first 12 bytes, 00 for version 1 and 01 for version 2, the
-- key's id, a zero, and the length of the sealed data key; numbers are little-endian
abbrev pub header : ℕ → ℕ → ℕ → List ℕ
header version id n = 34 ∷ 34 ∷ 34 ∷ 34 ∷ to_le_bytes w64 (100 + n) ++ (version - 1) ∷ to_le_bytes w64 id ++ 0 ∷ to_le_bytes w16 60

-- the drawn bytes are the data key, the nonce of its seal, and the nonce of the value's seal
abbrev pub data_key : List ℕ → List ℕ
data_key drawn = take 32 drawn

abbrev pub key_nonce : List ℕ → List ℕ
key_nonce drawn = take 12 (drop 32 drawn)

abbrev pub value_nonce : List ℕ → List ℕ
value_nonce drawn = take 12 (drop 44 drawn)

-- both seals have one extra
abbrev pub container : Sealing → List ℕ → ℕ → ℕ → List ℕ → List ℕ → List ℕ → List ℕ
container sealed extra version id key drawn plain =
    header version id (length plain) ++ key_nonce drawn ++ sealed key (key_nonce drawn) extra (data_key drawn)
    ++ value_nonce drawn ++ sealed (data_key drawn) (value_nonce drawn) extra plain

-- ---- the form

-- the id in the place of a container's
abbrev pub told_id : List ℕ → ℕ
told_id bytes = from_le_bytes w64 (take 8 (drop 13 bytes))

-- the version by the byte in its place
abbrev pub told_version : List ℕ → ℕ
told_version bytes = slice_index bytes 12 + 1

abbrev pub is_container : List ℕ → Bool
is_container bytes =
    nat_le 112 (length bytes) && nat_le (length bytes) (112 + 2 ^ 18) && nat_le 1 (told_id bytes) && nat_le (told_version bytes) 2
    && pointwise nat_eq (take 24 bytes) (header (told_version bytes) (told_id bytes) (length bytes - 112))

-- what bytes of a container's form tell
abbrev pub container_of : List ℕ → Option Container
container_of bytes = if is_container bytes then Some (record { id = told_id bytes; version = told_version bytes; length = length bytes - 112 }) else None

-- the same, as a reader of the format wants it: the header of a version, an id and a length, and as many bytes behind it
pub record IsContainer (bytes : List ℕ) (c : Container) : Type 0 where
  pub least : 1 ≤ c.id
  pub fits : c.id < 2 ^ 64
  pub first : 1 ≤ c.version
  pub last : c.version ≤ 2
  pub short : c.length ≤ 2 ^ 18
  pub long : length bytes ≡ 112 + c.length
  pub head : take 24 bytes ≡ header c.version c.id c.length

-- ---- opening

-- the data key that the owner's key opens, and then the value that the data key opens
abbrev pub opened_value : Opening → List ℕ → List ℕ → List ℕ → Option (List ℕ)
opened_value opened extra bytes key = opened key (take 12 (drop 84 bytes)) extra (drop 96 bytes)

abbrev pub opened_key : Opening → List ℕ → List ℕ → List ℕ → Option (List ℕ)
opened_key opened extra key bytes = opened key (take 12 (drop 24 bytes)) extra (take 48 (drop 36 bytes))

-- the plaintext of a container under this key, with this extra
abbrev pub opened_container : Opening → List ℕ → List ℕ → List ℕ → Option (List ℕ)
opened_container opened extra key bytes = option_and_then (opened_value opened extra bytes) (opened_key opened extra key bytes)

-- the bytes are the container of this value, with some drawn bytes
pub record IsSpelling (sealed : Sealing) (extra : List ℕ) (version id : ℕ) (key bytes plain : List ℕ) : Type 0 where
  pub drawn : List ℕ
  pub full : length drawn ≡ 56
  pub in_bytes : AreBytes drawn
  pub made : bytes ≡ container sealed extra version id key drawn plain
