-- The parts of messages, of either side, and their one spelling.
use Rattle.std.specs.Prelude.{ℕ, ◌^◌, ◌<◌, List, [], ◌∷◌, ◌++◌, length, Option, Some, None}
use Rattle.std.specs.List.{flat_map, AllByRecursion}
use Rattle.std.specs.Int.{w16, w32, to_be_bytes}
pub use Rattle.byte_reader.specs.Fields.{IsText, str}
use Rattle.pg_wire.specs.declared.front.Pair.{Pair}

abbrev pub IsPair : Pair → Type 0
IsPair p = IsText p.name × IsText p.value

abbrev pub pair_bytes : Pair → List ℕ
pair_bytes p = str p.name ++ str p.value

-- a number of four bytes
abbrev pub IsWord : ℕ → Type 0
IsWord n = n < 2 ^ 32

-- 0 for text, 1 for binary
abbrev pub IsFormat : ℕ → Type 0
IsFormat n = n < 2

-- a length is below 2^31, since a negative one is none
abbrev pub IsCell : Option (List ℕ) → Type 0
IsCell None = Unit {0}
IsCell (Some bytes) = length bytes < 2 ^ 31

-- NULL has the length -1
abbrev pub cell_bytes : Option (List ℕ) → List ℕ
cell_bytes None = to_be_bytes w32 4294967295
cell_bytes (Some bytes) = to_be_bytes w32 (length bytes) ++ bytes

-- a count of two bytes and its items
abbrev pub AreCounted : {A : Type 0} → (A → Type 0) → List A → Type 0
AreCounted Fits xs = (length xs < 2 ^ 16) × AllByRecursion Fits xs

abbrev pub counted_items : {A : Type 0} → (A → List ℕ) → List A → List ℕ
counted_items spell xs = to_be_bytes w16 (length xs) ++ flat_map spell xs

-- items and the zero byte that ends them
abbrev pub listed_items : {A : Type 0} → (A → List ℕ) → List A → List ℕ
listed_items spell xs = flat_map spell xs ++ 0 ∷ []
