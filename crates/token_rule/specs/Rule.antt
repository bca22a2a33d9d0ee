-- What a token stands for, and where the search for its number starts.
use Rattle.std.specs.Prelude.{ℕ, ◌≡◌, ◌≤◌, ◌^◌, List, [], ◌∷◌, ◌++◌, length, take, Bool, if◌then◌else◌}
use Rattle.std.specs.Int.{w32, w64, to_be_bytes, from_be_bytes}
use Rattle.acra_base.specs.declared.kind.ValueKind.{ValueKind}
use Rattle.acra_base.specs.declared.kind.ValueKind.TheVariants as kinds
use Rattle.acra_base.specs.Client.{IsClientId}
use Rattle.acra_crypto.specs.Hmac.{hmac_sha256}
use Rattle.plain_values.specs.Values.{IsCanonical}

-- a plaintext of an owner, whose tokens are all the same one or each another
pub record Want : Type 0 where
  pub kind : ValueKind
  pub owner : List ℕ
  pub plain : List ℕ
  pub consistent : Bool

-- the most bytes of a plaintext that has a token
abbrev pub most_value : ℕ
most_value = 256

-- a canonical plaintext of the kind, of at most 256 bytes
pub record IsTokenValue (kind : ValueKind) (plain : List ℕ) : Type 0 where
  pub canonical : IsCanonical kind plain
  pub short : length plain ≤ most_value

pub record IsWant (w : Want) : Type 0 where
  pub owned : IsClientId w.owner
  pub value : IsTokenValue w.kind w.plain

abbrev pub kind_byte : ValueKind → ℕ
kind_byte kinds.Int32 = 0
kind_byte kinds.Int64 = 1
kind_byte kinds.Str = 2
kind_byte kinds.Bytes = 3

-- how many numbers the tokens of a kind have: those of 32 bits, or of 64
abbrev pub number_count : ValueKind → ℕ
number_count kinds.Int32 = 2 ^ 32
number_count kinds.Int64 = 2 ^ 64
number_count kinds.Str = 2 ^ 64
number_count kinds.Bytes = 2 ^ 64

-- 0 where equal values share a token, else 1 and how many tokens were made before
abbrev pub start_mark : Bool → ℕ → List ℕ
start_mark consistent serial = if consistent then 0 ∷ [] else 1 ∷ to_be_bytes w64 serial

abbrev pub start_text : Want → ℕ → List ℕ
start_text w serial = kind_byte w.kind ∷ length w.owner ∷ w.owner ++ start_mark w.consistent serial ++ w.plain

-- the first 4 or 8 bytes of a mac, big-endian
abbrev pub front_number : ValueKind → List ℕ → ℕ
front_number kinds.Int32 mac = from_be_bytes w32 (take 4 mac)
front_number kinds.Int64 mac = from_be_bytes w64 (take 8 mac)
front_number kinds.Str mac = from_be_bytes w64 (take 8 mac)
front_number kinds.Bytes mac = from_be_bytes w64 (take 8 mac)

-- where the search starts, by the mac of the text (HMAC-SHA256, RFC 2104) under the token key
abbrev pub token_start : List ℕ → Want → ℕ → ℕ
token_start key w serial = front_number w.kind (hmac_sha256 key (start_text w serial))
