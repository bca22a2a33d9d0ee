-- Reading a body from left to right. What is read is a value and the bytes behind it. A fault is how many bytes
-- are left where the first field stands that can't be read.
use Rattle.std.specs.Prelude.{ℕ, zero, suc, ◌||◌, ◌^◌, ◌==◌, nat_lt, if◌then◌else◌, List, [], ◌∷◌, length, Option, Some, None, Result, Ok, Err}
use Rattle.std.specs.Int.{w16, w32, cast_signed}
use Rattle.byte_reader.specs.Fields.{◌>>=◌, be_number_at, bytes_at, str_at, alone}
use Rattle.pg_wire.specs.declared.front.Pair.{Pair}
use Rattle.pg_wire.specs.declared.front.Target.{Target}
use Rattle.pg_wire.specs.declared.front.Target.TheVariants as targets
use Rattle.pg_wire.specs.declared.front.Front.{Front}
use Rattle.pg_wire.specs.declared.front.Front.TheVariants as fronts
use Rattle.pg_wire.specs.declared.back.Field.{Field}
use Rattle.pg_wire.specs.declared.back.ErrorField.{ErrorField}
use Rattle.pg_wire.specs.declared.back.Back.{Back}
use Rattle.pg_wire.specs.declared.back.Back.TheVariants as backs

-- a field, and another one behind it
infixl 20 ◌followed_by◌
abbrev pub ◌followed_by◌ : {A B : Type 0} → (List ℕ → Result (A × List ℕ) ℕ) → (List ℕ → Result (B × List ℕ) ℕ) → List ℕ → Result ((A × B) × List ℕ) ℕ
◌followed_by◌ item other bytes = do
  first ← item bytes
  second ← other first.1
  Ok ((first.0, second.0), second.1)

-- ---- fields

unfoldable pub pair_at : List ℕ → Result (Pair × List ℕ) ℕ
pair_at bytes = do
  name ← str_at bytes
  value ← str_at name.1
  Ok (record { name = name.0; value = value.0 }, value.1)

unfoldable pub format_at : List ℕ → Result (ℕ × List ℕ) ℕ
format_at bytes = do
  n ← be_number_at w16 bytes
  if nat_lt n.0 2 then Ok n else Err (length bytes)

unfoldable pub field_at : List ℕ → Result (Field × List ℕ) ℕ
field_at bytes = do
  name ← str_at bytes
  table ← be_number_at w32 name.1
  attribute ← be_number_at w16 table.1
  kind ← be_number_at w32 attribute.1
  size ← be_number_at w16 kind.1
  modifier ← be_number_at w32 size.1
  format ← format_at modifier.1
  Ok (
    record {
      name = name.0;
      table = table.0;
      attribute = attribute.0;
      kind = kind.0;
      size = cast_signed w16 size.0;
      modifier = cast_signed w32 modifier.0;
      format = format.0;
    },
    format.1,
  )

-- the length -1 is NULL's, and no other negative one is a length
unfoldable pub cell_at : List ℕ → Result (Option (List ℕ) × List ℕ) ℕ
cell_at bytes = do
  n ← be_number_at w32 bytes
  if n.0 == 4294967295 then Ok (None, n.1) else if nat_lt n.0 (2 ^ 31) then (bytes_at n.0 n.1 >>= λ cell. Ok (Some cell.0, cell.1)) else Err (length bytes)

unfoldable pub error_at : List ℕ → Result (ErrorField × List ℕ) ℕ
error_at [] = Err 0
error_at (code ∷ bytes) = do
  text ← str_at bytes
  Ok (record { code = code; text = text.0 }, text.1)

unfoldable pub state_at : List ℕ → Result (ℕ × List ℕ) ℕ
state_at [] = Err 0
state_at (b ∷ bytes) = if (b == 73) || (b == 84) || (b == 69) then Ok (b, bytes) else Err (length (b ∷ bytes))

-- ---- lists

-- as many items as a count says
unfoldable pub items_at : {A : Type 0} → (List ℕ → Result (A × List ℕ) ℕ) → ℕ → List ℕ → Result (List A × List ℕ) ℕ
items_at item zero bytes = Ok ([], bytes)
items_at item (suc n) bytes = do
  first ← item bytes
  others ← items_at item n first.1
  Ok (first.0 ∷ others.0, others.1)

unfoldable pub counted_at : {A : Type 0} → (List ℕ → Result (A × List ℕ) ℕ) → List ℕ → Result (List A × List ℕ) ℕ
counted_at item bytes = do
  n ← be_number_at w16 bytes
  items_at item n.0 n.1

-- items up to a zero byte in an item's place. There are at most n.
unfoldable pub ended_at : {A : Type 0} → (List ℕ → Result (A × List ℕ) ℕ) → ℕ → List ℕ → Result (List A × List ℕ) ℕ
ended_at item zero bytes = Err (length bytes)
ended_at item (suc n) [] = Err 0
ended_at item (suc n) (zero ∷ bytes) = Ok ([], bytes)
ended_at item (suc n) (suc b ∷ bytes) = do
  first ← item (suc b ∷ bytes)
  others ← ended_at item n first.1
  Ok (first.0 ∷ others.0, others.1)

-- each item takes a byte, so there are fewer than bytes
abbrev pub listed_at : {A : Type 0} → (List ℕ → Result (A × List ℕ) ℕ) → List ℕ → Result (List A × List ℕ) ℕ
listed_at item bytes = ended_at item (length bytes) bytes

-- ---- messages

abbrev pub mapped : {A B : Type 0} → (A → B) → Result (A × List ℕ) ℕ → Result (B × List ℕ) ℕ
mapped f read = read >>= λ x. Ok (f x.0, x.1)

-- a code, and all of the bytes behind it
unfoldable pub auth_at : List ℕ → Result (Back × List ℕ) ℕ
auth_at bytes = do
  code ← be_number_at w32 bytes
  Ok (backs.Auth code.0 code.1, [])

unfoldable pub key_data_at : List ℕ → Result (Back × List ℕ) ℕ
key_data_at bytes = do
  process ← be_number_at w32 bytes
  key ← be_number_at w32 process.1
  Ok (backs.KeyData process.0 key.0, key.1)

-- a message of this type; another type is a fault at the body's first byte
abbrev pub back_at : ℕ → List ℕ → Result (Back × List ℕ) ℕ
back_at kind body =
    if kind == 82 then auth_at body
    else if kind == 83 then mapped backs.Status (pair_at body)
    else if kind == 75 then key_data_at body
    else if kind == 90 then mapped backs.Ready (state_at body)
    else if kind == 84 then mapped backs.Row (counted_at field_at body)
    else if kind == 68 then mapped backs.Cells (counted_at cell_at body)
    else if kind == 67 then mapped backs.Complete (str_at body)
    else if kind == 69 then mapped backs.Error (listed_at error_at body)
    else if kind == 73 then Ok (backs.EmptyQuery, body)
    else if kind == 78 then mapped backs.Notice (listed_at error_at body)
    else if kind == 49 then Ok (backs.ParseDone, body)
    else if kind == 50 then Ok (backs.BindDone, body)
    else if kind == 51 then Ok (backs.CloseDone, body)
    else if kind == 110 then Ok (backs.NoData, body)
    else if kind == 116 then mapped backs.Params (counted_at (be_number_at w32) body)
    else if kind == 115 then Ok (backs.Suspended, body)
    else Err (length body)

unfoldable pub back_read : ℕ → List ℕ → Result Back ℕ
back_read kind body = back_at kind body >>= alone

-- what stands behind the code of a startup packet: 196608 for protocol 3.0, and those of the requests. Another
-- code is a fault at the first byte of the body, which has this length.
abbrev pub coded_at : ℕ → ℕ × List ℕ → Result (Front × List ℕ) ℕ
coded_at len code =
    if code.0 == 196608 then mapped fronts.Startup (listed_at pair_at code.1)
    else if code.0 == 80877103 then Ok (fronts.SslRequest, code.1)
    else if code.0 == 80877104 then Ok (fronts.GssRequest, code.1)
    else if code.0 == 80877102 then mapped (λ x. fronts.Cancel x.0 x.1) ((be_number_at w32 followed_by be_number_at w32) code.1)
    else Err len

unfoldable pub startup_at : List ℕ → Result (Front × List ℕ) ℕ
startup_at bytes = be_number_at w32 bytes >>= coded_at (length bytes)

-- a name, a text, and types
unfoldable pub parse_at : List ℕ → Result (Front × List ℕ) ℕ
parse_at bytes = mapped (λ x. fronts.Parse x.0.0 x.0.1 x.1) ((str_at followed_by str_at followed_by counted_at (be_number_at w32)) bytes)

-- a portal, a statement, formats, values, and formats of results
unfoldable pub bind_at : List ℕ → Result (Front × List ℕ) ℕ
bind_at bytes =
    mapped (λ x. fronts.Bind x.0.0.0.0 x.0.0.0.1 x.0.0.1 x.0.1 x.1)
    ((str_at followed_by str_at followed_by counted_at format_at followed_by counted_at cell_at followed_by counted_at format_at) bytes)

unfoldable pub target_at : List ℕ → Result (Target × List ℕ) ℕ
target_at [] = Err 0
target_at (b ∷ bytes) = if b == 83 then Ok (targets.Prepared, bytes) else if b == 80 then Ok (targets.Portal, bytes) else Err (length (b ∷ bytes))

-- what a message is about, and its name
unfoldable pub targeted_at : List ℕ → Result ((Target × List ℕ) × List ℕ) ℕ
targeted_at bytes = (target_at followed_by str_at) bytes

-- a portal, and the most rows
unfoldable pub execute_at : List ℕ → Result (Front × List ℕ) ℕ
execute_at bytes = mapped (λ x. fronts.Execute x.0 x.1) ((str_at followed_by be_number_at w32) bytes)

-- a message of this type, 0 for a startup packet; another type is a fault at the body's first byte
abbrev pub front_at : ℕ → List ℕ → Result (Front × List ℕ) ℕ
front_at kind body =
    if kind == 0 then startup_at body
    else if kind == 81 then mapped fronts.Query (str_at body)
    else if kind == 80 then parse_at body
    else if kind == 66 then bind_at body
    else if kind == 68 then mapped (λ x. fronts.Describe x.0 x.1) (targeted_at body)
    else if kind == 69 then execute_at body
    else if kind == 67 then mapped (λ x. fronts.Close x.0 x.1) (targeted_at body)
    else if kind == 83 then Ok (fronts.Sync, body)
    else if kind == 72 then Ok (fronts.Flush, body)
    else if kind == 112 then Ok (fronts.Password body, [])
    else if kind == 88 then Ok (fronts.Terminate, body)
    else Err (length body)

unfoldable pub front_read : ℕ → List ℕ → Result Front ℕ
front_read kind body = front_at kind body >>= alone
