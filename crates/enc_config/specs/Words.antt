-- The words of a policy.
use Rattle.std.specs.Prelude.{ℕ, List, [], ◌∷◌, Bool, false, ◌&&◌, ◌||◌, if◌then◌else◌, Option, Some, None, unwrap_or, codes, length, nat_le, bytes_eq}
use Rattle.std.specs.List.{list_all, list_any}
use Rattle.acra_base.specs.Client.{is_id_byte}
use Rattle.acra_base.specs.declared.kind.ValueKind.{ValueKind}
use Rattle.acra_base.specs.declared.kind.ValueKind.TheVariants.{Str, Bytes, Int32, Int64}

-- the words of `data_type` and `token_type`
abbrev pub kind_word : List ℕ → Option ValueKind
kind_word w =
    if bytes_eq w (codes "str") then Some Str
    else if bytes_eq w (codes "bytes") then Some Bytes
    else if bytes_eq w (codes "int32") then Some Int32
    else if bytes_eq w (codes "int64") then Some Int64
    else None

-- the words of `types`
abbrev pub type_word : List ℕ → Option ValueKind
type_word w =
    if bytes_eq w (codes "text") then Some Str
    else if bytes_eq w (codes "bytea") then Some Bytes
    else if bytes_eq w (codes "int4") then Some Int32
    else if bytes_eq w (codes "int8") then Some Int64
    else None

abbrev pub is_among : List ℕ → List (List ℕ) → Bool
is_among name names = list_any (bytes_eq name) names

-- an item equals an earlier one
abbrev pub has_twice : List (List ℕ) → Bool
has_twice [] = false
has_twice (name ∷ names) = is_among name names || has_twice names

abbrev pub kind_or : Option (List ℕ) → ValueKind → ValueKind
kind_or None k = k
kind_or (Some w) k = unwrap_or (kind_word w) k

-- the kind of an entry: that of `data_type`, else of `token_type`, else bytes
abbrev pub kind_from : Option (List ℕ) → Option (List ℕ) → ValueKind
kind_from data_type token_type = kind_or data_type (kind_or token_type Bytes)

-- a client's name: 1 to 64 bytes of a to z, 0 to 9 and _
abbrev pub is_client_id : List ℕ → Bool
is_client_id t = nat_le 1 (length t) && nat_le (length t) 64 && list_all is_id_byte t
