-- How a reply of the backend is read and shown, and how a request is sent on.
use Rattle.std.specs.Prelude.{ℕ, ◌≡◌, ◌^◌, ◌⊎◌, ◌&&◌, Bool, false, Option, Some, None, Result, Ok, Err, List, [], ◌∷◌, map}
use Rattle.std.specs.List.{flat_map, AllByRecursion}
use Rattle.acra_devices.specs.Known.{Grew}
use Rattle.pg_wire.specs.declared.front.Front.{Front}
use Rattle.pg_wire.specs.declared.back.Back.{Back}
use Rattle.pg_wire.specs.declared.frame.Side.TheVariants as side
use Rattle.pg_wire.specs.Streams.{Stream}
use Rattle.pg_wire.specs.Fronts.{IsFront, front_kind, front_body}
use Rattle.pg_wire.specs.Backs.{back_frame}
use Rattle.pg_wire.specs.Frames.{IsFrame, asks_encryption}
use Rattle.machine_replies.specs.Replies.{IsWritable}
use Rattle.lab_backend.specs.Sessions.{IsRequest, text_limit}
use Rattle.lab_backend.specs.Backend.{Lab, Replies}
use Rattle.session_model.specs.Reply.{reply_bytes}
use Rattle.lab_session.specs.Runs.{session_number}
use Rattle.lab_session.specs.Session.{SentFront, connection, awaits_startup}

-- the bytes are these messages
abbrev pub IsReply : List ℕ → List Back → Type 0
IsReply bytes messages = (bytes ≡ flat_map back_frame messages) × AllByRecursion IsWritable messages

-- a stream of the backend from which these messages are still to be read
pub record Holds (s : Stream) (messages : List Back) : Type 0 where
  pub who : s.who ≡ side.Backend
  pub limit : s.limit ≡ 2 ^ 30
  pub opening : s.opening ≡ false
  pub rest : IsReply s.left messages

-- the next message is the first, none at the end
abbrev pub NextIs : Option Back → List Back → Stream → Type 0
NextIs None [] s = Unit {0}
NextIs (Some message) (m ∷ ms) s = (message ≡ m) × Holds s ms
NextIs None (m ∷ ms) s = ⊥
NextIs (Some message) [] s = ⊥

-- all of the bytes were sent, or at an error a front of them
abbrev pub Sends : {T E : Type 0} → Option (List ℕ) → Option (List ℕ) → Result T E → List ℕ → Type 0
Sends old new (Ok t) bytes = Grew old new bytes
Sends old new (Err e) bytes = SentFront old new bytes

-- the backend of a session between two requests, whatever its tables
pub record IsIdle (lab : Lab) : Type 0 where
  pub goes_on : (connection lab).over ≡ false
  pub who : (connection lab).stream.who ≡ side.Client
  pub limit : (connection lab).stream.limit ≡ text_limit
  pub idle : (connection lab).stream.left ≡ []

-- the backend executed a request, and the messages of its reply were shown
pub record Forwards (show : Back → Back) (lab : Lab) (request : Front) (after : Lab) (old new : Option (List ℕ)) : Type 0 where
  pub messages : List Back
  pub replies : Replies session_number request lab.tables messages after.tables
  pub idle : IsIdle after
  pub opening : awaits_startup after ≡ (awaits_startup lab && asks_encryption (front_body request))
  pub sent : Grew old new (reply_bytes (map show messages))

-- the backend executed a request, and a front of its reply was shown
pub record Breaks (show : Back → Back) (lab : Lab) (request : Front) (after : Lab) (old new : Option (List ℕ)) : Type 0 where
  pub messages : List Back
  pub replies : Replies session_number request lab.tables messages after.tables
  pub sent : SentFront old new (reply_bytes (map show messages))

abbrev pub ForwardGives : {T E : Type 0} → (Back → Back) → Lab → Front → Result T E → Lab → Option (List ℕ) → Option (List ℕ) → Type 0
ForwardGives show lab request (Ok t) after old new = Forwards show lab request after old new
ForwardGives show lab request (Err e) after old new = ((after.tables ≡ lab.tables) × Grew old new []) ⊎ Breaks show lab request after old new

-- a request that may be sent to the backend now
pub record CanSend (opening : Bool) (request : Front) : Type 0 where
  pub placed : IsRequest opening request
  pub spelled : IsFront request
  pub framed : IsFrame side.Client text_limit opening (front_kind request) (front_body request)
