-- Frames: a type byte of the side, four bytes of length that count themselves, and the body.
-- A startup packet has no type byte. (PostgreSQL manual, "Message Formats".)
use Rattle.std.specs.Prelude.{ℕ, ◌≡◌, ◌+◌, ◌^◌, ◌<◌, ◌≤◌, ◌==◌, nat_eq, Bool, true, false, if◌then◌else◌, List, [], ◌∷◌, ◌++◌, length, take, codes}
use Rattle.std.specs.List.{list_any}
use Rattle.std.specs.Int.{w32, to_be_bytes, from_be_bytes}
use Rattle.pg_wire.specs.declared.frame.Side.{Side}
use Rattle.pg_wire.specs.declared.frame.Side.TheVariants as side
use Rattle.pg_wire.specs.declared.frame.FrameFault.{FrameFault}
use Rattle.pg_wire.specs.declared.frame.FrameFault.TheVariants as faults

-- the type bytes of a client and of a server
abbrev pub types_of : Side → List ℕ
types_of side.Client = codes "QPBDCESHXp"
types_of side.Backend = codes "RSKZTDCENtI123ns"

abbrev pub is_type : Side → ℕ → Bool
is_type who t = list_any (nat_eq t) (types_of who)

-- the length, which counts its own four bytes, and the body
abbrev pub counted : List ℕ → List ℕ
counted body = to_be_bytes w32 (length body + 4) ++ body

-- a frame, by its type and body; the type 0 is a startup packet's
abbrev pub frame_bytes : ℕ → List ℕ → List ℕ
frame_bytes kind body = if kind == 0 then counted body else kind ∷ counted body

-- a frame that may stand here: a startup packet while one is awaited, else a message of the side
abbrev pub IsFrame : Side → ℕ → Bool → ℕ → List ℕ → Type 0
IsFrame who limit true kind body = (kind ≡ 0) × (4 ≤ length body) × (length body + 4 ≤ 10000)
IsFrame who limit false kind body = (is_type who kind ≡ true) × (length body + 4 ≤ limit) × (length body + 4 < 2 ^ 32)

-- a startup packet that asks for encryption; another startup packet follows it
abbrev pub asks_encryption : List ℕ → Bool
asks_encryption body = list_any (nat_eq (from_be_bytes w32 (take 4 body))) (80877103 ∷ 80877104 ∷ [])

-- ---- faults

-- the number that four bytes of length tell, where they are there
abbrev pub LengthIs : List ℕ → ℕ → Type 0
LengthIs bytes n = (4 ≤ length bytes) × (from_be_bytes w32 (take 4 bytes) ≡ n)

-- a length out of its bounds
abbrev pub BadLengthIs : ℕ → ℕ → ℕ → FrameFault → Type 0
BadLengthIs least most n (faults.BadLength m) = (m ≡ n) × (n < least)
BadLengthIs least most n (faults.TooLong m) = (m ≡ n) × (least ≤ n) × (most < n)
BadLengthIs least most n (faults.UnknownType t) = ⊥

-- why no frame begins these bytes, however they go on
abbrev pub HasFault : Side → ℕ → Bool → List ℕ → FrameFault → Type 0
HasFault who limit true bytes fault = (n : ℕ) × LengthIs bytes n × BadLengthIs 8 10000 n fault
HasFault who limit false [] fault = ⊥
HasFault who limit false (t ∷ bytes) (faults.UnknownType u) = (u ≡ t) × (is_type who t ≡ false)
HasFault who limit false (t ∷ bytes) fault = (is_type who t ≡ true) × ((n : ℕ) × LengthIs bytes n × BadLengthIs 4 limit n fault)

-- no fault stands here, and a frame of some length is not yet whole
pub record IsUnfinished (who : Side) (limit : ℕ) (opening : Bool) (bytes : List ℕ) : Type 0 where
  pub no_fault : (fault : FrameFault) → HasFault who limit opening bytes fault → ⊥
  pub no_frame : (kind : ℕ) (body rest : List ℕ) → IsFrame who limit opening kind body → bytes ≡ frame_bytes kind body ++ rest → ⊥
