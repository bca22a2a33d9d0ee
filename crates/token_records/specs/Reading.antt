-- Reading what stands before a record's seal, from left to right. A fault is how many bytes are left where the first
-- field stands that can't be so.
use Rattle.std.specs.Prelude.{ℕ, ◌≡◌, ◌==◌, nat_lt, Bool, true, false, if◌then◌else◌, List, length, Option, Some, None, Result, Ok, Err}
use Rattle.std.specs.Int.{w64}
use Rattle.byte_reader.specs.Fields.{◌>>=◌, byte_at, le_number_at, be_number_at, bytes_at}
use Rattle.acra_base.specs.declared.kind.ValueKind.{ValueKind}
use Rattle.acra_base.specs.declared.kind.ValueKind.TheVariants as kinds
use Rattle.token_rule.specs.Rule.{Want, IsWant, number_count}
use Rattle.token_records.specs.Records.{Sealing}
use Rattle.token_records.specs.declared.front.Front as declared

pub record Front : Type 0 where
  pub kind : ValueKind
  pub consistent : Bool
  pub owner : List ℕ
  pub serial : ℕ
  pub token : ℕ
  pub nonce : List ℕ

abbrev pub shown : declared.Front → Front
shown f = record { kind = f.kind; consistent = f.consistent; owner = f.owner.now; serial = f.serial; token = f.token; nonce = f.nonce }

-- what a front is of, with this plaintext
abbrev pub want_of : Front → List ℕ → Want
want_of front plain = record { kind = front.kind; owner = front.owner; plain = plain; consistent = front.consistent }

-- what stands behind a front is the seal of this plaintext, with the head as the extra
pub record Seals (sealed : Sealing) (store_key head seal : List ℕ) (front : Front) (plain : List ℕ) : Type 0 where
  pub is : IsWant (want_of front plain)
  pub made : seal ≡ sealed store_key front.nonce head plain

-- the kind that a byte stands for
abbrev pub kind_of : ℕ → Option ValueKind
kind_of byte =
    if byte == 0 then Some kinds.Int32
    else if byte == 1 then Some kinds.Int64
    else if byte == 2 then Some kinds.Str
    else if byte == 3 then Some kinds.Bytes
    else None

abbrev pub mark_of : ℕ → Option Bool
mark_of byte = if byte == 0 then Some false else if byte == 1 then Some true else None

-- what a byte stands for, where it stands for something
abbrev pub known : {A : Type 0} → ℕ → Option A → List ℕ → Result (A × List ℕ) ℕ
known left None rest = Err left
known left (Some x) rest = Ok (x, rest)

abbrev pub kind_at : List ℕ → Result (ValueKind × List ℕ) ℕ
kind_at bytes = byte_at bytes >>= λ b. known (length bytes) (kind_of b.0) b.1

abbrev pub mark_at : List ℕ → Result (Bool × List ℕ) ℕ
mark_at bytes = byte_at bytes >>= λ b. known (length bytes) (mark_of b.0) b.1

-- a token of the kind
abbrev pub token_at : ValueKind → List ℕ → Result (ℕ × List ℕ) ℕ
token_at kind bytes = be_number_at w64 bytes >>= λ n. if nat_lt n.0 (number_count kind) then Ok n else Err (length bytes)

-- behind the kind and the mark
abbrev pub front_behind : ValueKind → Bool → List ℕ → Result (Front × List ℕ) ℕ
front_behind kind consistent bytes = do
  count ← byte_at bytes
  owner ← bytes_at count.0 count.1
  serial ← le_number_at w64 owner.1
  token ← token_at kind serial.1
  nonce ← bytes_at 12 token.1
  Ok (record { kind = kind; consistent = consistent; owner = owner.0; serial = serial.0; token = token.0; nonce = nonce.0 }, nonce.1)

-- all before the seal, and the seal
unfoldable pub front_at : List ℕ → Result (Front × List ℕ) ℕ
front_at bytes = do
  kind ← kind_at bytes
  mark ← mark_at kind.1
  front_behind kind.0 mark.0 mark.1
