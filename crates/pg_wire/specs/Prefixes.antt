-- Bytes that can still become a frame.
use Rattle.std.specs.Prelude.{ℕ, ◌≡◌, ◌≢◌, ◌+◌, ◌^◌, ◌<◌, Bool, true, false, List, [], ◌++◌, length}
use Rattle.pg_wire.specs.declared.frame.Side.{Side}
use Rattle.pg_wire.specs.Frames.{is_type, frame_bytes}

-- the type of a frame that may stand here
abbrev pub IsKind : Side → Bool → ℕ → Type 0
IsKind who true kind = kind ≡ 0
IsKind who false kind = is_type who kind ≡ true

-- a frame of some length begins with these bytes, and is longer
pub record BeginsFrame (who : Side) (opening : Bool) (bytes : List ℕ) : Type 0 where
  pub kind : ℕ
  pub body : List ℕ
  pub more : List ℕ
  pub is_kind : IsKind who opening kind
  pub fits : length body + 4 < 2 ^ 32
  pub whole : frame_bytes kind body ≡ bytes ++ more
  pub longer : more ≢ []
