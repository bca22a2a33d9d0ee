-- The cells of a session: what is stored for a value, and what a cell in text form opens to.
use Rattle.std.specs.Prelude.{ℕ, ◌≡◌, ◌^◌, ◌≤◌, ◌<◌, nat_eq, if◌then◌else◌, List, [], ◌∷◌, length, take, drop, Option, Some, None}
use Rattle.std.specs.Option.{option_and_then}
use Rattle.std.specs.Result.{result_ok}
use Rattle.std.specs.Cmp.Lexicographic.{pointwise}
use Rattle.hex.specs.Hex.{decode_of, IsBytes}
use Rattle.acra_crypto.specs.Gcm.{aes256_gcm, aes256_gcm_opened}
use Rattle.acra_block.specs.Keys.{Key, key_of}
use Rattle.acra_block.specs.Containers.{Sealing, Opening}
use Rattle.acra_block.specs.Cells.{cell, opened_cell}
use Rattle.acra_block.specs.declared.kind.CellKind.TheVariants as kinds
use Rattle.acra_block.specs.declared.keys.KeyView.{KeyView}
use Rattle.acra_block.specs.declared.place.CellPlace.{CellPlace}
use Rattle.acra_block.specs.declared.opening.Opened.{Opened}
use Rattle.acra_block.specs.declared.opening.Opened.TheVariants as answers
use Rattle.session_model.specs.Meanings.{string_limit}
use Rattle.session_model.specs.Notes.{notes, body}

-- the cipher, AES-256-GCM
abbrev pub sealing : Sealing
sealing key nonce extra plain = aes256_gcm key nonce extra plain

abbrev pub opening : Opening
opening key nonce extra text = aes256_gcm_opened key nonce extra text

-- where the cells stand
abbrev pub notes_body : CellPlace
notes_body = record { table = notes; column = body }

-- the sealed cell of a value in version 2, with these drawn bytes
abbrev pub sealed_cell : Key → List ℕ → List ℕ → List ℕ
sealed_cell key drawn plain = cell sealing kinds.Sealed notes_body 2 key drawn plain

-- a stored cell of the client, made in either version for a value with 56 drawn bytes
pub record IsStored (key : Key) (owner plain stored : List ℕ) : Type 0 where
  pub version : ℕ
  pub first : 1 ≤ version
  pub last : version ≤ 2
  pub drawn : List ℕ
  pub full : length drawn ≡ 56
  pub owned : owner ≡ key.owner
  pub short : length plain ≤ string_limit
  pub made : stored ≡ cell sealing kinds.Sealed notes_body version key drawn plain
  pub bytes : IsBytes stored

-- ---- opening

-- the owner's view of its keys, in which this key stands under its id
pub record HasKey (view : KeyView) (key : Key) : Type 0 where
  pub who : view.who ≡ key.owner
  pub least : 1 ≤ key.id
  pub fits : key.id < 2 ^ 64
  pub given : key.id < view.next_id
  pub found : key_of key.id view.keys ≡ Some key.key

-- the bytes of a cell in text form: \x and hexadecimal digits
abbrev pub text_bytes : List ℕ → Option (List ℕ)
text_bytes text = if pointwise nat_eq (take 2 text) (92 ∷ 120 ∷ []) then result_ok (decode_of (drop 2 text)) else None

-- the value that a cell opens to
abbrev pub value_of : Opened × List ℕ → Option (List ℕ)
value_of (answers.Plain, plain) = Some plain
value_of (answers.Broken, none) = None
value_of (answers.UnknownKey id, none) = None
value_of (answers.Foreign, none) = None

abbrev pub value_in : KeyView → List ℕ → Option (List ℕ)
value_in view bytes = value_of (opened_cell opening kinds.Sealed notes_body view bytes)

-- what a cell in text form opens to
abbrev pub opened_by : KeyView → List ℕ → Option (List ℕ)
opened_by view text = option_and_then (value_in view) (text_bytes text)
