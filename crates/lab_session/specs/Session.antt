-- How a session ends, and what it has done by then.
use Rattle.std.specs.Prelude.{ℕ, ◌≡◌, ◌≢◌, ◌+◌, ◌^◌, ◌≤◌, ◌⊎◌, Bool, true, false, Option, List, [], ◌∷◌, ◌++◌, length}
use Rattle.std.specs.List.{flat_map}
use Rattle.rand_chacha.specs.ChaCha.{ChaCha}
use Rattle.acra_devices.specs.Known.{Grew, Shrank, IsAtEnd}
use Rattle.pg_wire.specs.declared.frame.Side.TheVariants as side
use Rattle.pg_wire.specs.Streams.{Stream, fed}
use Rattle.table_machine.specs.declared.cell.Cell.{Cell}
use Rattle.table_machine.specs.Tables.{Table}
use Rattle.lab_backend.specs.Backend.{Lab, session_of}
use Rattle.lab_backend.specs.Sessions.{Session, text_limit}
use Rattle.session_model.specs.Requests.{Request, Phase, phase_after_all, is_opening, AreSaid, request_bytes, stream_of, message_limit}
use Rattle.session_model.specs.BadMessages.{IsBad, IsCut}
use Rattle.session_model.specs.Standing.{StandFor}
use Rattle.acra_block.specs.Keys.{Key}
use Rattle.lab_session.specs.Cells.{IsStored}
use Rattle.lab_session.specs.Runs.{State, session_number, started, state_after_all, answers}
use Rattle.lab_session.specs.declared.status.Status.{Status}
use Rattle.lab_session.specs.declared.status.Status.TheVariants as ends
use Rattle.lab_session.specs.declared.stop.Stop.{Stop}
use Rattle.lab_session.specs.declared.stop.Stop.TheVariants as stops

-- a read took a piece, none only at the end, and fed it
pub record PieceRead (left left' : Option (List ℕ)) (old new : Stream) (n room : ℕ) : Type 0 where
  pub piece : List ℕ
  pub behind : new ≡ fed old piece
  pub took : Shrank left left' piece
  pub count : length piece ≡ n
  pub within : n ≤ room
  pub none : n ≡ 0 → IsAtEnd left'

-- a read took a piece, which may be lost
abbrev pub PieceTaken : Option (List ℕ) → Option (List ℕ) → Type 0
PieceTaken left left' = (piece : List ℕ) × Shrank left left' piece

-- a front of these bytes was sent
abbrev pub SentFront : Option (List ℕ) → Option (List ℕ) → List ℕ → Type 0
SentFront old new bytes = (part : List ℕ) × (more : List ℕ) × (part ++ more ≡ bytes) × Grew old new part

-- ---- the backend between two requests

-- what the backend has of this session
abbrev pub connection : Lab → Session
connection lab = session_of lab session_number

-- whether it awaits the session's startup
abbrev pub awaits_startup : Lab → Bool
awaits_startup lab = (connection lab).stream.opening

-- the backend has executed all that was sent, and its tables stand for these
pub record Rests (keys : Key) (lab : Lab) (s : State) (awaits : Bool) : Type 0 where
  pub stand : StandFor (IsStored keys) lab.tables s.tables
  pub goes_on : (connection lab).over ≡ false
  pub who : (connection lab).stream.who ≡ side.Client
  pub limit : (connection lab).stream.limit ≡ text_limit
  pub opening : awaits_startup lab ≡ awaits
  pub idle : (connection lab).stream.left ≡ []

-- ---- a session so far

-- these requests were answered, and some bytes have come of the next
pub record SoFar (keys : Key) (g0 : ChaCha) (left0 held0 left held : Option (List ℕ)) (g : ChaCha) (lab : Lab) (stream : Stream) (taken : ℕ) (requests : List Request) : Type 0 where
  pub each : AreSaid Phase.Opening requests
  pub serving : phase_after_all Phase.Opening requests ≢ Phase.Over
  pub read : Shrank left0 left (stream_of requests stream.left)
  pub sent : Grew held0 held (answers keys (started g0) requests)
  pub rests : Rests keys lab (state_after_all keys (started g0) requests) (is_opening (phase_after_all Phase.Opening requests))
  pub drawn : g ≡ (state_after_all keys (started g0) requests).coming
  pub who : stream.who ≡ side.Client
  pub limit : stream.limit ≡ message_limit
  pub opening : stream.opening ≡ is_opening (phase_after_all Phase.Opening requests)
  pub place : stream.offset ≡ length (flat_map request_bytes requests)
  pub total : taken ≡ stream.offset + length stream.left

-- ---- ends

-- why a session ends that has answered these requests, with this rest of what was read
abbrev pub Ends : Status → Option (List ℕ) → List Request → List ℕ → Type 0
Ends ends.Done left requests rest = ((rest ≡ []) × IsAtEnd left) ⊎ (phase_after_all Phase.Opening requests ≡ Phase.Over)
Ends (ends.BadClient offset kind) left requests rest =
    (offset ≡ length (flat_map request_bytes requests)) × (phase_after_all Phase.Opening requests ≢ Phase.Over) × IsBad (phase_after_all Phase.Opening requests) rest kind
Ends (ends.ClientCut offset) left requests rest =
    (offset ≡ length (stream_of requests rest)) × (phase_after_all Phase.Opening requests ≢ Phase.Over) × IsCut (phase_after_all Phase.Opening requests) rest × IsAtEnd left
Ends ends.Spent left requests rest = length (stream_of requests rest) ≡ 2 ^ 48
Ends ends.Usage left requests rest = ⊥
Ends status left requests rest = Unit {0}

-- the end of a session that stops
abbrev pub status_of : Stop → Status
status_of stops.NoMemory = ends.NoMemory
status_of stops.ReadFault = ends.ReadFault
status_of stops.WriteFault = ends.WriteFault

-- whether the last request may have been begun and not answered whole
abbrev pub may_begin : Status → Bool
may_begin ends.WriteFault = true
may_begin ends.NoMemory = true
may_begin status = false

-- a request that was begun: its reply was sent in part, and it was executed or not
abbrev pub MayBegin : Status → List Request → Type 0
MayBegin status [] = Unit {0}
MayBegin status (request ∷ []) = may_begin status ≡ true
MayBegin status (request ∷ more ∷ requests) = ⊥

-- a session ended so: it answered these requests whole, and at most one more in part
pub record Ran (keys : Key) (g0 : ChaCha) (left0 left held0 held : Option (List ℕ)) (tables : List (Table Cell)) (status : Status) (answered begun : List Request) (rest : List ℕ) : Type 0 where
  pub each : AreSaid Phase.Opening (answered ++ begun)
  pub read : Shrank left0 left (stream_of (answered ++ begun) rest)
  pub why_begun : MayBegin status begun
  -- what was sent of the reply to the begun request, and what was not
  pub behind : List ℕ
  pub more : List ℕ
  pub replies : answers keys (started g0) answered ++ behind ++ more ≡ answers keys (started g0) (answered ++ begun)
  pub sent : Grew held0 held (answers keys (started g0) answered ++ behind)
  pub stand : StandFor (IsStored keys) tables (state_after_all keys (started g0) answered).tables ⊎ StandFor (IsStored keys) tables (state_after_all keys (started g0) (answered ++ begun)).tables
  pub why : Ends status left answered rest
