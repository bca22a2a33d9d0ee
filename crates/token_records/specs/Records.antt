-- The form of a token's record.
use Rattle.std.specs.Prelude.{ℕ, ◌≡◌, ◌<◌, ◌^◌, List, ◌∷◌, ◌++◌, length, Bool, if◌then◌else◌, Option, Some, None, Result, Ok, Err}
use Rattle.std.specs.Int.{w64, to_le_bytes, to_be_bytes}
use Rattle.acra_base.specs.declared.no_memory.NoMemory.{NoMemory}
use Rattle.token_rule.specs.Rule.{Want, IsWant, kind_byte, number_count}
use Rattle.token_records.specs.declared.record.Record.{Record}

-- the seal of a value, by key, nonce, extra and value
abbrev pub Sealing : Type 0
Sealing = List ℕ → List ℕ → List ℕ → List ℕ → List ℕ

abbrev pub consistent_byte : Bool → ℕ
consistent_byte consistent = if consistent then 1 else 0

-- what stands before the nonce: what the token is of, all but the plaintext, how many tokens were made before it, and
-- the token
abbrev pub record_head : Want → ℕ → ℕ → List ℕ
record_head want serial token =
    kind_byte want.kind ∷ consistent_byte want.consistent ∷ length want.owner ∷ want.owner ++ (to_le_bytes w64 serial ++ to_be_bytes w64 token)

-- the plaintext is sealed under the store key, with all before the nonce as the extra
abbrev pub token_record : Sealing → List ℕ → List ℕ → Want → ℕ → ℕ → List ℕ
token_record sealed store_key nonce want serial token =
    record_head want serial token ++ (nonce ++ sealed store_key nonce (record_head want serial token) want.plain)

-- the bytes are the record of this token, with some nonce
pub record IsRecord (sealed : Sealing) (store_key bytes : List ℕ) (want : Want) (serial token : ℕ) : Type 0 where
  pub nonce : List ℕ
  pub full : length nonce ≡ 12
  pub is : IsWant want
  pub fits : serial < 2 ^ 64
  pub within : token < number_count want.kind
  pub made : bytes ≡ token_record sealed store_key nonce want serial token

-- the record of a token is read as that token, unless there is no memory
abbrev pub ReadsAs : Result (Option Record) NoMemory → Want → ℕ → ℕ → Type 0
ReadsAs (Ok (Some found)) want serial token = (found.want ≡ want) × (found.serial ≡ serial) × (found.token ≡ token)
ReadsAs (Ok None) want serial token = ⊥
ReadsAs (Err fault) want serial token = Unit {0}
