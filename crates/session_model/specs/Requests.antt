-- What a client asks, and the stream of bytes that it sends.
use Rattle.std.specs.Prelude.{ℕ, ◌≡◌, ◌^◌, Bool, true, false, List, [], ◌∷◌, ◌++◌}
use Rattle.std.specs.List.{flat_map}
use Rattle.pg_wire.specs.declared.front.Pair.{Pair}
use Rattle.pg_wire.specs.declared.front.Front.{Front}
use Rattle.pg_wire.specs.declared.front.Front.TheVariants as fronts
use Rattle.pg_wire.specs.declared.frame.Side.TheVariants as side
use Rattle.pg_wire.specs.Frames.{IsFrame}
use Rattle.pg_wire.specs.Fronts.{IsText, str, IsFront, front_body, front_frame}
use Rattle.sql_tree.specs.declared.statement.Statement.{Statement}
use Rattle.session_model.specs.declared.encryption.Encryption.{Encryption}
use Rattle.session_model.specs.declared.encryption.Encryption.TheVariants as encryption
use Rattle.session_model.specs.declared.meaning.Meaning.{Meaning}
use Rattle.session_model.specs.declared.meaning.Meaning.TheVariants as meaning
use Rattle.session_model.specs.declared.refusal.Refusal.{Refusal}
use Rattle.session_model.specs.Meanings.{Means}

-- a request for encryption, a startup message, a text with the statement that it spells, a text without a statement, a text
-- with the cause for which it is refused, the end
pub data Request : Type 0 where
  Encrypts : Encryption → Request
  Opens : List Pair → Request
  Asks : (text : List ℕ) (tree : Statement) → Request
  Empties : (text : List ℕ) → Request
  Refused : (text : List ℕ) (cause : Refusal) → Request
  Leaves : Request

abbrev pub asking : Encryption → Front
asking encryption.Tls = fronts.SslRequest
asking encryption.Gss = fronts.GssRequest

abbrev pub message_of : Request → Front
message_of (Request.Encrypts how) = asking how
message_of (Request.Opens params) = fronts.Startup params
message_of (Request.Asks text tree) = fronts.Query text
message_of (Request.Empties text) = fronts.Query text
message_of (Request.Refused text cause) = fronts.Query text
message_of Request.Leaves = fronts.Terminate

-- before the startup message, after it, after the end
pub data Phase : Type 0 where
  Opening : Phase
  Serving : Phase
  Over : Phase

abbrev pub phase_after : Phase → Request → Phase
phase_after phase (Request.Encrypts how) = phase
phase_after phase (Request.Opens params) = Phase.Serving
phase_after phase (Request.Asks text tree) = phase
phase_after phase (Request.Empties text) = phase
phase_after phase (Request.Refused text cause) = phase
phase_after phase Request.Leaves = Phase.Over

-- whether a startup packet is awaited
abbrev pub is_opening : Phase → Bool
is_opening Phase.Opening = true
is_opening Phase.Serving = false
is_opening Phase.Over = false

-- ---- what may be said where

-- a client's message has a length up to 2^24
abbrev pub message_limit : ℕ
message_limit = 2 ^ 24

-- a text within a message's length, and what it asks
pub record IsQuery (text : List ℕ) (what : Meaning) : Type 0 where
  pub no_zero : IsText text
  pub framed : IsFrame side.Client message_limit false 81 (str text)
  pub means : Means text what

-- a request in its place
abbrev pub IsSaid : Phase → Request → Type 0
IsSaid Phase.Opening (Request.Encrypts how) = Unit {0}
IsSaid Phase.Opening (Request.Opens params) = IsFront (fronts.Startup params) × IsFrame side.Client message_limit true 0 (front_body (fronts.Startup params))
IsSaid Phase.Serving (Request.Asks text tree) = IsQuery text (meaning.Serves tree)
IsSaid Phase.Serving (Request.Empties text) = IsQuery text meaning.Nothing
IsSaid Phase.Serving (Request.Refused text cause) = IsQuery text (meaning.Refused cause)
IsSaid Phase.Serving Request.Leaves = Unit {0}
IsSaid _ _ = ⊥

abbrev pub AreSaid : Phase → List Request → Type 0
AreSaid phase [] = Unit {0}
AreSaid phase (r ∷ rs) = IsSaid phase r × AreSaid (phase_after phase r) rs

abbrev pub phase_after_all : Phase → List Request → Phase
phase_after_all phase [] = phase
phase_after_all phase (r ∷ rs) = phase_after_all (phase_after phase r) rs

-- ---- the stream

abbrev pub request_bytes : Request → List ℕ
request_bytes r = front_frame (message_of r)

-- the requests, and then what is left
abbrev pub stream_of : List Request → List ℕ → List ℕ
stream_of rs rest = flat_map request_bytes rs ++ rest

-- no whole request begins here
abbrev pub NoRequest : Phase → List ℕ → Type 0
NoRequest phase bytes = (r : Request) (rest : List ℕ) → IsSaid phase r → bytes ≡ request_bytes r ++ rest → ⊥

-- the stream is these requests, and then what begins with none
pub record Splits (client : List ℕ) (rs : List Request) (rest : List ℕ) : Type 0 where
  pub whole : client ≡ stream_of rs rest
  pub each : AreSaid Phase.Opening rs
  pub last : NoRequest (phase_after_all Phase.Opening rs) rest
