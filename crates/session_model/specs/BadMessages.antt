-- What a client's bytes are that begin no request: a bad message, or one that is cut off.
use Rattle.std.specs.Prelude.{ℕ, ◌≡◌, ◌≢◌, Bool, true, false, List, [], ◌++◌}
use Rattle.pg_wire.specs.declared.front.Front.{Front}
use Rattle.pg_wire.specs.declared.front.Front.TheVariants as fronts
use Rattle.pg_wire.specs.declared.frame.MessageFault.{MessageFault}
use Rattle.pg_wire.specs.declared.frame.MessageFault.TheVariants as message
use Rattle.pg_wire.specs.declared.frame.Side.TheVariants as side
use Rattle.pg_wire.specs.Frames.{frame_bytes, IsFrame, HasFault, IsUnfinished}
use Rattle.pg_wire.specs.Fronts.{IsFront, front_kind, front_body}
use Rattle.pg_wire.specs.Reading.{SpellsFront}
use Rattle.session_model.specs.Requests.{Phase, is_opening, message_limit}

-- a frame of this type and body stands first
pub record StandsFirst (phase : Phase) (bytes : List ℕ) (kind : ℕ) (body : List ℕ) : Type 0 where
  pub rest : List ℕ
  pub framed : IsFrame side.Client message_limit (is_opening phase) kind body
  pub front : bytes ≡ frame_bytes kind body ++ rest

abbrev pub is_serving : Phase → Bool
is_serving Phase.Opening = false
is_serving Phase.Serving = true
is_serving Phase.Over = false

-- whether a message has its place here: a request for encryption and the startup message while a startup packet is awaited,
-- a query and the end afterwards, and no other message anywhere
abbrev pub is_placed : Front → Phase → Bool
is_placed fronts.SslRequest phase = is_opening phase
is_placed fronts.GssRequest phase = is_opening phase
is_placed (fronts.Startup params) phase = is_opening phase
is_placed (fronts.Query text) phase = is_serving phase
is_placed fronts.Terminate phase = is_serving phase
is_placed m phase = false

-- the bytes begin with a bad message: no frame can stand here, or the frame spells no message, or the message is out of its
-- place
abbrev pub IsBad : Phase → List ℕ → MessageFault → Type 0
IsBad phase bytes (message.Frame fault) = HasFault side.Client message_limit (is_opening phase) bytes fault
IsBad phase bytes message.Body = (kind : ℕ) × (body : List ℕ) × StandsFirst phase bytes kind body × ((m : Front) → SpellsFront kind body m → ⊥)
IsBad phase bytes message.Place = (m : Front) × IsFront m × StandsFirst phase bytes (front_kind m) (front_body m) × (is_placed m phase ≡ false)
IsBad phase bytes message.Batch = ⊥
IsBad phase bytes message.Shape = ⊥

-- the bytes are a prefix of a frame, and not all of it
pub record IsCut (phase : Phase) (bytes : List ℕ) : Type 0 where
  pub some : bytes ≢ []
  pub unfinished : IsUnfinished side.Client message_limit (is_opening phase) bytes
