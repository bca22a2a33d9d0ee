-- Sessions, and the requests that stand first in their streams.
use Rattle.std.specs.Prelude.{ℕ, ◌≡◌, ◌^◌, ◌⊎◌, Bool, true, false, List, ◌++◌, Result, Ok, Err, Option, Some, None, slice_index_or}
use Rattle.pg_wire.specs.declared.front.Front.{Front}
use Rattle.pg_wire.specs.declared.front.Front.TheVariants as fronts
use Rattle.pg_wire.specs.declared.frame.Side.TheVariants as side
use Rattle.pg_wire.specs.Frames.{IsFrame, frame_bytes}
use Rattle.pg_wire.specs.Streams.{Stream, new_stream, fed, behind}
use Rattle.pg_wire.specs.Fronts.{IsFront, front_kind, front_body, front_frame}

-- texts and messages up to 2^27 bytes are read
abbrev pub text_limit : ℕ
text_limit = 2 ^ 27

pub record Session : Type 0 where
  -- what was fed and not executed
  pub stream : Stream
  -- whether something came that begins no request: nothing after it is executed
  pub over : Bool

-- a session of which nothing came
abbrev pub new_session : Session
new_session = record { stream = new_stream side.Client text_limit; over = false }

-- the session of a number; one that was never fed is new
abbrev pub session_at : List Session → ℕ → Session
session_at sessions number = slice_index_or sessions number new_session

-- a session of which these bytes came then
abbrev pub session_fed : Session → List ℕ → Session
session_fed s bytes = record { stream = fed s.stream bytes; over = s.over }

-- ---- requests

-- a startup while one is awaited, then Queries
abbrev pub IsRequest : Bool → Front → Type 0
IsRequest true (fronts.Startup params) = Unit {0}
IsRequest false (fronts.Query text) = Unit {0}
IsRequest _ _ = ⊥

-- a request that stands first in a client's stream, and what follows it
pub record Begins (stream : Stream) (request : Front) (rest : List ℕ) : Type 0 where
  pub placed : IsRequest stream.opening request
  pub spelled : IsFront request
  pub framed : IsFrame side.Client stream.limit stream.opening (front_kind request) (front_body request)
  pub front : stream.left ≡ front_frame request ++ rest

abbrev pub BeginsNone : Stream → Type 0
BeginsNone stream = (request : Front) (rest : List ℕ) → Begins stream request rest → ⊥

-- no request stands first, whatever comes
abbrev pub NeverBegins : Stream → Type 0
NeverBegins stream = (more : List ℕ) → BeginsNone (fed stream more)

-- a session's oldest request, and what follows it
pub record StandsFirst (s : Session) (request : Front) (rest : List ℕ) : Type 0 where
  pub goes_on : s.over ≡ false
  pub begins : Begins s.stream request rest

abbrev pub StandsNone : Session → Type 0
StandsNone s = (request : Front) (rest : List ℕ) → StandsFirst s request rest → ⊥

-- the session behind its oldest request
abbrev pub session_behind : Session → Front → List ℕ → Session
session_behind s request rest = record { stream = behind s.stream (front_kind request) (front_body request) rest; over = s.over }

-- nothing of the session changes, but that it is known to be over
abbrev pub Waits : Session → Session → Type 0
Waits s t = (t ≡ s) ⊎ ((t.over ≡ true) × NeverBegins s.stream)

-- the first frame is taken
pub record TakesFrame (s t : Stream) : Type 0 where
  pub kind : ℕ
  pub body : List ℕ
  pub rest : List ℕ
  pub is : IsFrame side.Client s.limit s.opening kind body
  pub front : s.left ≡ frame_bytes kind body ++ rest
  pub after : t ≡ behind s kind body rest

-- without memory it is taken or not
abbrev pub MayTake : Stream → Stream → Type 0
MayTake s t = (t ≡ s) ⊎ TakesFrame s t

-- what is taken from a session
abbrev pub TakesOldest : {E : Type 0} → Session → Result (Option Front) E → Session → Type 0
TakesOldest s (Ok (Some request)) t = (rest : List ℕ) × StandsFirst s request rest × (t ≡ session_behind s request rest)
TakesOldest s (Ok None) t = StandsNone s × Waits s t
TakesOldest s (Err e) t = MayTake s.stream t.stream × (t.over ≡ s.over)
