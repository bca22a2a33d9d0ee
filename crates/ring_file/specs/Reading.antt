-- Reading a body from left to right. What is read is a value and the bytes behind it. A fault is how many bytes are
-- left where the first field stands that can't be so, by its own rules and the fields before it.
use Rattle.std.specs.Prelude.{ℕ, zero, suc, ◌&&◌, ◌-◌, ◌==◌, nat_le, nat_lt, Bool, true, not, if◌then◌else◌, List, [], ◌∷◌, ◌++◌, length, Option, Some, None, Result, Ok, Err}
use Rattle.std.specs.List.{list_all, list_any}
use Rattle.std.specs.Int.{w16, w64}
use Rattle.byte_reader.specs.Fields.{◌>>=◌, byte_at, le_number_at, bytes_at, alone}
use Rattle.std.specs.Ordering.{is_lt}
use Rattle.acra_base.specs.Client.{is_id_byte}
use Rattle.keystore.specs.declared.phase.OldPhase.{OldPhase}
use Rattle.keystore.specs.declared.phase.OldPhase.TheVariants as old_phases
use Rattle.keystore.specs.declared.phase.OldKey.{OldKey}
use Rattle.keystore.specs.Rings.{ClientKeys, RingState, name_cmp, restored_ring}
use Rattle.keystore.specs.Kept.{has_id}

-- a field that was read, where it can be so
abbrev pub judged : {A : Type 0} → Bool → ℕ → A → Result A ℕ
judged can left x = if can then Ok x else Err left

-- ---- fields by themselves

abbrev pub next_id_at : List ℕ → Result (ℕ × List ℕ) ℕ
next_id_at bytes = le_number_at w64 bytes >>= λ n. judged (nat_le 1 n.0) (length bytes) n

-- at most 256 clients
abbrev pub client_count_at : List ℕ → Result (ℕ × List ℕ) ℕ
client_count_at bytes = le_number_at w16 bytes >>= λ n. judged (nat_le n.0 256) (length bytes) n

-- 1 to 256 keys
abbrev pub key_count_at : List ℕ → Result (ℕ × List ℕ) ℕ
key_count_at bytes = le_number_at w16 bytes >>= λ n. judged (nat_le 1 n.0 && nat_le n.0 256) (length bytes) n

-- 1 to 64 bytes
abbrev pub name_length_at : List ℕ → Result (ℕ × List ℕ) ℕ
name_length_at bytes = byte_at bytes >>= λ n. judged (nat_le 1 n.0 && nat_le n.0 64) (length bytes) n

abbrev pub old_phase_in : ℕ → ℕ × List ℕ → Result (OldPhase × List ℕ) ℕ
old_phase_in left n = if n.0 == 1 then Ok (old_phases.Draining 1, n.1) else if n.0 == 2 then Ok (old_phases.Swept 1, n.1) else Err left

-- 1 for a key that drains, 2 for one that is swept
abbrev pub old_phase_at : List ℕ → Result (OldPhase × List ℕ) ℕ
old_phase_at bytes = byte_at bytes >>= old_phase_in (length bytes)

-- 0 for the last key, which is current
abbrev pub current_at : List ℕ → Result (ℕ × List ℕ) ℕ
current_at bytes = byte_at bytes >>= λ n. judged (n.0 == 0) (length bytes) n

-- ---- fields behind others

abbrev pub last_of : {A : Type 0} → List A → Option A
last_of [] = None
last_of (x ∷ []) = Some x
last_of (x ∷ (y ∷ ys)) = last_of (y ∷ ys)

-- names ascend
abbrev pub comes_after : Option ClientKeys → List ℕ → Bool
comes_after None name = true
comes_after (Some c) name = is_lt (name_cmp c.name name)

abbrev pub can_be_name : List ClientKeys → List ℕ → Bool
can_be_name before name = list_all is_id_byte name && comes_after (last_of before) name

unfoldable pub name_at : List ClientKeys → ℕ → List ℕ → Result (List ℕ × List ℕ) ℕ
name_at before n bytes = bytes_at n bytes >>= λ name. judged (can_be_name before name.0) (length bytes) name

abbrev pub id_or_zero : Option OldKey → ℕ
id_or_zero None = 0
id_or_zero (Some k) = k.id

-- ids ascend within a client from 1 on, are below the next one, and stand nowhere before
abbrev pub can_be_id : ℕ → List ClientKeys → List OldKey → ℕ → Bool
can_be_id next before past id = nat_lt (id_or_zero (last_of past)) id && nat_lt id next && not (list_any (has_id id) before)

unfoldable pub id_at : ℕ → List ClientKeys → List OldKey → List ℕ → Result (ℕ × List ℕ) ℕ
id_at next before past bytes = le_number_at w64 bytes >>= λ n. judged (can_be_id next before past n.0) (length bytes) n

unfoldable pub old_key_at : ℕ → List ClientKeys → List OldKey → List ℕ → Result (OldKey × List ℕ) ℕ
old_key_at next before past bytes = do
  id ← id_at next before past bytes
  phase ← old_phase_at id.1
  key ← bytes_at 32 phase.1
  Ok (record { id = id.0; key = key.0; phase = phase.0 }, key.1)

-- so many keys behind these
unfoldable pub old_keys_at : ℕ → List ClientKeys → ℕ → List OldKey → List ℕ → Result (List OldKey × List ℕ) ℕ
old_keys_at next before zero past bytes = Ok (past, bytes)
old_keys_at next before (suc n) past bytes = do
  key ← old_key_at next before past bytes
  old_keys_at next before n (past ++ key.0 ∷ []) key.1

-- a client's keys behind its name and the key of its blind indexes
unfoldable pub keys_at : ℕ → List ClientKeys → List ℕ → List ℕ → List ℕ → Result (ClientKeys × List ℕ) ℕ
keys_at next before name search bytes = do
  count ← key_count_at bytes
  past ← old_keys_at next before (count.0 - 1) [] count.1
  id ← id_at next before past.0 past.1
  current ← current_at id.1
  key ← bytes_at 32 current.1
  Ok (record { name = name; search = search; id = id.0; key = key.0; past = past.0 }, key.1)

-- a client behind these
unfoldable pub client_at : ℕ → List ClientKeys → List ℕ → Result (ClientKeys × List ℕ) ℕ
client_at next before bytes = do
  len ← name_length_at bytes
  name ← name_at before len.0 len.1
  search ← bytes_at 32 name.1
  keys_at next before name.0 search.0 search.1

-- so many clients behind these
unfoldable pub clients_at : ℕ → ℕ → List ClientKeys → List ℕ → Result (List ClientKeys × List ℕ) ℕ
clients_at next zero before bytes = Ok (before, bytes)
clients_at next (suc n) before bytes = do
  client ← client_at next before bytes
  clients_at next n (before ++ client.0 ∷ []) client.1

-- the next id and the clients of a ring with these keys
abbrev pub ring_behind : List ℕ → List ℕ → List ℕ → List ℕ → Result (RingState × List ℕ) ℕ
ring_behind token store audit bytes = do
  next ← next_id_at bytes
  count ← client_count_at next.1
  clients ← clients_at next.0 count.0 [] count.1
  Ok (restored_ring token store audit clients.0 next.0, clients.1)

unfoldable pub ring_at : List ℕ → Result (RingState × List ℕ) ℕ
ring_at bytes = do
  token ← bytes_at 32 bytes
  store ← bytes_at 32 token.1
  audit ← bytes_at 32 store.1
  ring_behind token.0 store.0 audit.0 audit.1

-- the ring that a body spells, or how many bytes are left at the first field that can't be so
unfoldable pub ring_read : List ℕ → Result RingState ℕ
ring_read body = ring_at body >>= alone
