-- What stands at the front of a stream of which these bytes have come.
use Rattle.std.specs.Prelude.{ℕ, ◌≡◌, ◌+◌, ◌^◌, ◌<◌, ◌≤◌, Bool, List, ◌++◌, length}
use Rattle.pg_wire.specs.declared.frame.Side.{Side}
use Rattle.pg_wire.specs.declared.frame.FrameFault.{FrameFault}
use Rattle.pg_wire.specs.declared.head.Head.{Head}
use Rattle.pg_wire.specs.declared.head.Head.TheVariants as heads
use Rattle.pg_wire.specs.Frames.{counted, frame_bytes, IsFrame, LengthIs, BadLengthIs, HasFault, IsUnfinished}

-- a length within its bounds, that is told and counts itself
pub record IsSize (least most : ℕ) (body : List ℕ) : Type 0 where
  pub least_kept : least ≤ length body + 4
  pub most_kept : length body + 4 ≤ most
  pub fits : length body + 4 < 2 ^ 32

-- no length out of its bounds, and no whole body
pub record IsCountedShort (least most : ℕ) (bytes : List ℕ) : Type 0 where
  pub no_fault : (n : ℕ) (fault : FrameFault) → LengthIs bytes n → BadLengthIs least most n fault → ⊥
  pub no_body : (body rest : List ℕ) → IsSize least most body → bytes ≡ counted body ++ rest → ⊥

abbrev pub IsCounted : ℕ → ℕ → ℕ → List ℕ → Head → Type 0
IsCounted kind least most bytes (heads.Whole k body rest) = (k ≡ kind) × IsSize least most body.now × (bytes ≡ counted body.now ++ rest.now)
IsCounted kind least most bytes heads.Unfinished = IsCountedShort least most bytes
IsCounted kind least most bytes (heads.Fault fault) = (n : ℕ) × LengthIs bytes n × BadLengthIs least most n fault

abbrev pub IsHead : Side → ℕ → Bool → List ℕ → Head → Type 0
IsHead who limit opening bytes (heads.Whole kind body rest) = IsFrame who limit opening kind body.now × (bytes ≡ frame_bytes kind body.now ++ rest.now)
IsHead who limit opening bytes heads.Unfinished = IsUnfinished who limit opening bytes
IsHead who limit opening bytes (heads.Fault fault) = HasFault who limit opening bytes fault
