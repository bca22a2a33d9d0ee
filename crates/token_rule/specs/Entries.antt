-- The list of tokens, in the order of making.
use Rattle.std.specs.Prelude.{ℕ, ◌≡◌, ◌<◌, ◌+◌, ◌%◌, ◌==◌, ◌&&◌, nat_eq, List, length, Bool, true, false, Option, option_map}
use Rattle.std.specs.List.{list_any, find}
use Rattle.std.specs.Cmp.Lexicographic.{pointwise}
use Rattle.acra_base.specs.declared.kind.ValueKind.{ValueKind}
use Rattle.token_rule.specs.Rule.{Want, kind_byte, number_count, token_start}

-- a token, and what it stands for
pub record Entry : Type 0 where
  pub want : Want
  pub token : ℕ

abbrev pub is_of_kind : ValueKind → Entry → Bool
is_of_kind kind e = kind_byte e.want.kind == kind_byte kind

-- the entry of this token
abbrev pub is_token : ValueKind → ℕ → Entry → Bool
is_token kind token e = is_of_kind kind e && (e.token == token)

abbrev pub entry_of : List Entry → ValueKind → ℕ → Option Entry
entry_of entries kind token = find (is_token kind token) entries

-- some token of the kind has this number
abbrev pub is_taken : List Entry → ValueKind → ℕ → Bool
is_taken entries kind number = list_any (is_token kind number) entries

-- a consistent token of this kind, owner and plaintext
abbrev pub is_standing : Want → Entry → Bool
is_standing w e = e.want.consistent && is_of_kind w.kind e && pointwise nat_eq e.want.owner w.owner && pointwise nat_eq e.want.plain w.plain

-- the token that a value has already
abbrev pub standing_token : List Entry → Want → Option ℕ
standing_token entries w = option_map (λ (e : Entry). e.token) (find (is_standing w) entries)

-- the first number from the start, going round, that no token of the kind has
pub record IsFirstFree (entries : List Entry) (kind : ValueKind) (start number : ℕ) : Type 0 where
  pub steps : ℕ
  pub round : steps < number_count kind
  pub place : number ≡ (start + steps) % number_count kind
  pub free : is_taken entries kind number ≡ false
  pub taken : (i : ℕ) → i < steps → is_taken entries kind ((start + i) % number_count kind) ≡ true

-- the token that the rule gives a value behind these tokens
abbrev pub IsNextToken : List ℕ → List Entry → Want → ℕ → Type 0
IsNextToken key entries w token = IsFirstFree entries w.kind (token_start key w (length entries)) token
