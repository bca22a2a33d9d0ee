-- A stored cell opens to its value.
use Rattle.std.proofs.Common.{◌≡◌, ℕ, ◌+◌, ◌≤◌, List, [], ◌∷◌, length, take, drop, Option, Some, refl, ap, ◌∙◌, arith}
use Rattle.std.specs.List.{AllByRecursion}
use Rattle.std.specs.Option.{option_and_then}
use Rattle.std.specs.Result.{result_ok}
use Rattle.hex.specs.Hex.{IsBytes}
use Rattle.hex.proofs.HexLemmas.{decode_of-encode_lower}
use Rattle.acra_crypto.specs.Aes.{aes256}
use Rattle.acra_crypto.specs.Sealed.{gcm_opens, gcm_only, length-gcm_sealed}
use Rattle.acra_block.specs.declared.kind.CellKind.TheVariants as kinds
use Rattle.acra_block.specs.declared.keys.KeyView.{KeyView}
use Rattle.acra_block.specs.Keys.{Key}
use Rattle.acra_block.specs.Places.{extra_of}
use Rattle.acra_block.specs.Cells.{cell}
use Rattle.acra_block.proofs.Sealed.{cell_opens}
use Rattle.acra_block.proofs.Spelled.{sealed_parts}
use Rattle.session_model.specs.Meanings.{string_limit}
use Rattle.session_model.specs.Rewritten.{stored_text}
use Rattle.table_machine.specs.Tables.{Table}
use Rattle.session_model.specs.Plain.{PlainCell}
use Rattle.session_model.specs.Standing.{IsMeant, AreMeant}
use Rattle.session_model.specs.Shown.{Opens}
use Rattle.lab_session.specs.Cells.{sealing, opening, notes_body, sealed_cell, IsStored, HasKey, text_bytes, value_of, value_in, opened_by}

-- a sealed cell has 112 bytes more than its value
pub sealed_length : (key : Key) (drawn plain stored : List ℕ) → length drawn ≡ 56 → stored ≡ sealed_cell key drawn plain → length stored ≡ 112 + length plain
sealed_length key drawn plain stored full made =
    let extra = extra_of 2 notes_body key.owner in
    let parts = sealed_parts sealing opening (λ k n e p. gcm_opens (aes256 k) n e p) (λ k n e s p h. gcm_only (aes256 k) n e s p h) (λ k n e p. length-gcm_sealed (aes256 k) n e p) extra 2 key.id key.key drawn plain stored full made in
    omega (arith, parts.long, length-gcm_sealed (aes256 (take 32 drawn)) (take 12 (drop 44 drawn)) extra plain)

pub value_again : (key : Key) (view : KeyView) (version : ℕ) (drawn plain stored : List ℕ) → HasKey view key → 1 ≤ version → version ≤ 2 → length drawn ≡ 56 → length plain ≤ string_limit
    → stored ≡ cell sealing kinds.Sealed notes_body version key drawn plain → value_in view stored ≡ Some plain
value_again key view version drawn plain stored has first last full short made =
    ap (value_in view) made
    ∙ ap value_of (cell_opens sealing opening (λ k n e p. gcm_opens (aes256 k) n e p) (λ k n e s p h. gcm_only (aes256 k) n e s p h) (λ k n e p. length-gcm_sealed (aes256 k) n e p)
    notes_body version first last kinds.Sealed key view drawn plain short tt full has.least has.fits has.given has.who has.found)

-- bytes in text form mean these bytes
pub text_again : (bytes : List ℕ) → IsBytes bytes → text_bytes (stored_text bytes) ≡ Some bytes
text_again bytes h = ap result_ok (decode_of-encode_lower bytes h)

pub stored_opens : (keys : Key) (view : KeyView) → HasKey view keys → (owner plain stored : List ℕ) → IsStored keys owner plain stored → Opens keys.owner (opened_by view) owner plain stored
stored_opens keys view has owner plain stored h = record {
  owned = h.owned;
  opens = ap (λ (o : Option (List ℕ)). option_and_then (value_in view) o) (text_again stored h.bytes) ∙ value_again keys view h.version h.drawn plain stored has h.first h.last h.full h.short h.made;
}

-- rows of stored cells open
row_opens : (keys : Key) (view : KeyView) → HasKey view keys → (row : List PlainCell) → IsMeant (IsStored keys) row → IsMeant (Opens keys.owner (opened_by view)) row
row_opens keys view has (PlainCell.Public c ∷ PlainCell.Protected owner plain stored ∷ []) h = stored_opens keys view has owner plain stored h
row_opens keys view has [] h = absurd h
row_opens keys view has (PlainCell.Public c ∷ []) h = absurd h
row_opens keys view has (PlainCell.Public c ∷ PlainCell.Public d ∷ more) h = absurd h
row_opens keys view has (PlainCell.Public c ∷ PlainCell.Protected owner plain stored ∷ d ∷ more) h = absurd h
row_opens keys view has (PlainCell.Protected owner plain stored ∷ more) h = absurd h

rows_open : (keys : Key) (view : KeyView) → HasKey view keys → (rows : List (List PlainCell)) → AllByRecursion (IsMeant (IsStored keys)) rows → AllByRecursion (IsMeant (Opens keys.owner (opened_by view))) rows
rows_open keys view has [] h = tt
rows_open keys view has (row ∷ rows) h = (row_opens keys view has row h.0, rows_open keys view has rows h.1)

pub tables_open : (keys : Key) (view : KeyView) → HasKey view keys → (tables : List (Table PlainCell)) → AreMeant (IsStored keys) tables → AreMeant (Opens keys.owner (opened_by view)) tables
tables_open keys view has tables m = record { rows = m.rows; are = m.are; each = rows_open keys view has m.rows m.each }
