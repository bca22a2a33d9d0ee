-- A file of pieces: each behind its length.
use Rattle.std.specs.Prelude.{ℕ, ◌≡◌, ◌<◌, ◌^◌, List, ◌++◌, length, Result, Ok, Err}
use Rattle.std.specs.List.{AllByRecursion, flat_map}
use Rattle.std.specs.Int.{w32, to_le_bytes}
use Rattle.byte_reader.specs.Fields.{◌>>=◌, le_number_at, bytes_at}
use Rattle.token_records.specs.declared.pieces.PiecesFault.{PiecesFault}
use Rattle.token_records.specs.declared.pieces.PiecesFault.TheVariants as fault

-- a piece behind its length of 4 bytes, little-endian
abbrev pub piece_bytes : List ℕ → List ℕ
piece_bytes piece = to_le_bytes w32 (length piece) ++ piece

abbrev pub pieces_bytes : List (List ℕ) → List ℕ
pieces_bytes pieces = flat_map piece_bytes pieces

abbrev pub AreShort : List (List ℕ) → Type 0
AreShort pieces = AllByRecursion (λ piece. length piece < 2 ^ 32) pieces

-- a whole piece begins the bytes
pub record Begins (bytes : List ℕ) : Type 0 where
  pub piece : List ℕ
  pub rest : List ℕ
  pub short : length piece < 2 ^ 32
  pub made : bytes ≡ piece_bytes piece ++ rest

-- the bytes are these whole pieces
pub record ArePieces (bytes : List ℕ) (pieces : List (List ℕ)) : Type 0 where
  pub short : AreShort pieces
  pub made : bytes ≡ pieces_bytes pieces

-- the bytes before the place are whole pieces, and no whole piece begins what stands from there on, which isn't empty
pub record StopsAt (bytes : List ℕ) (place : ℕ) : Type 0 where
  pub pieces : List (List ℕ)
  pub rest : List ℕ
  pub short : AreShort pieces
  pub made : bytes ≡ pieces_bytes pieces ++ rest
  pub before : place ≡ length (pieces_bytes pieces)
  pub more : 0 < length rest
  pub cut : Begins rest → ⊥

-- what an answer says of the bytes
abbrev pub IsCause : List ℕ → Result (List (List ℕ)) PiecesFault → Type 0
IsCause bytes (Ok pieces) = ArePieces bytes pieces
IsCause bytes (Err (fault.NotWhole place)) = StopsAt bytes place
IsCause bytes (Err fault.NoMemory) = Unit {0}

-- the answer is these pieces, unless there is no memory
abbrev pub AnswersPieces : Result (List (List ℕ)) PiecesFault → List (List ℕ) → Type 0
AnswersPieces (Ok found) pieces = found ≡ pieces
AnswersPieces (Err (fault.NotWhole place)) pieces = ⊥
AnswersPieces (Err fault.NoMemory) pieces = Unit {0}

-- the answer is this place, unless there is no memory
abbrev pub AnswersPlace : Result (List (List ℕ)) PiecesFault → ℕ → Type 0
AnswersPlace (Ok found) place = ⊥
AnswersPlace (Err (fault.NotWhole found)) place = found ≡ place
AnswersPlace (Err fault.NoMemory) place = Unit {0}

-- reading a piece from left to right; a fault is how many bytes are left where the first field stands that can't be read
abbrev pub piece_at : List ℕ → Result (List ℕ × List ℕ) ℕ
piece_at bytes = le_number_at w32 bytes >>= λ n. bytes_at n.0 n.1
