-- Reading fields from left to right. What is read is a value and the bytes behind it. A fault is how many bytes are
-- left where the first field stands that can't be read.
use Rattle.std.specs.Prelude.{ℕ, ◌+◌, ◌==◌, nat_lt, if◌then◌else◌, List, [], ◌∷◌, ◌++◌, length, Contains, take, drop, Option, Some, None, Result, Ok, Err}
use Rattle.std.specs.List.{position}
use Rattle.std.specs.Int.{Width, byte_len, from_be_bytes, from_le_bytes}

infixl 10 ◌>>=◌
abbrev pub ◌>>=◌ : {A B : Type 0} → Result A ℕ → (A → Result B ℕ) → Result B ℕ
(Ok x) >>= f = f x
(Err left) >>= f = Err left

abbrev pub byte_at : List ℕ → Result (ℕ × List ℕ) ℕ
byte_at [] = Err 0
byte_at (b ∷ bytes) = Ok (b, bytes)

-- a number of this width, in an order of its bytes
abbrev pub number_at : (Width → List ℕ → ℕ) → Width → List ℕ → Result (ℕ × List ℕ) ℕ
number_at from w bytes = if nat_lt (length bytes) (byte_len w) then Err (length bytes) else Ok (from w (take (byte_len w) bytes), drop (byte_len w) bytes)

-- the greatest byte first
abbrev pub be_number_at : Width → List ℕ → Result (ℕ × List ℕ) ℕ
be_number_at = number_at from_be_bytes

-- the least byte first
abbrev pub le_number_at : Width → List ℕ → Result (ℕ × List ℕ) ℕ
le_number_at = number_at from_le_bytes

abbrev pub bytes_at : ℕ → List ℕ → Result (List ℕ × List ℕ) ℕ
bytes_at n bytes = if nat_lt (length bytes) n then Err (length bytes) else Ok (take n bytes, drop n bytes)

-- the bytes before a place and those behind it
abbrev pub around : List ℕ → Option ℕ → Result (List ℕ × List ℕ) ℕ
around bytes None = Err (length bytes)
around bytes (Some i) = Ok (take i bytes, drop (i + 1) bytes)

-- a text that ends before the first zero byte
unfoldable pub str_at : List ℕ → Result (List ℕ × List ℕ) ℕ
str_at bytes = around bytes (position (λ b. b == 0) bytes)

-- the value by itself, where nothing follows it
abbrev pub alone : {A : Type 0} → A × List ℕ → Result A ℕ
alone x = if length x.1 == 0 then Ok x.0 else Err (length x.1)

-- ---- the spelling of a text

-- a text without a zero byte
abbrev pub IsText : List ℕ → Type 0
IsText text = Contains text 0 → ⊥

-- a text and the zero byte that ends it
abbrev pub str : List ℕ → List ℕ
str text = text ++ 0 ∷ []
