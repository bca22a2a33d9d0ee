-- A stream over many calls: what was fed, and what was answered.
use Rattle.std.specs.Prelude.{ℕ, ◌≡◌, ◌+◌, ◌%◌, ◌^◌, Bool, ◌&&◌, List, [], ◌∷◌, ◌++◌, length, Option, Some, None, Result, Ok, Err}
use Rattle.std.specs.List.{flat_map}
use Rattle.pg_wire.specs.declared.frame.Side.{Side}
use Rattle.pg_wire.specs.declared.frame.Frame.{Frame}
use Rattle.pg_wire.specs.declared.frame.NextFault.{NextFault}
use Rattle.pg_wire.specs.Frames.{frame_bytes, IsFrame, asks_encryption}
use Rattle.pg_wire.specs.Streams.{Stream, opens, fed, Gives}

-- a piece that was fed, or what `next` answered
pub data Event : Type 0 where
  Fed : List ℕ → Event
  Answered : Result (Option Frame) NextFault → Event

-- the stream before and behind these events
abbrev pub Run : Stream → List Event → Stream → Type 0
Run s [] t = t ≡ s
Run s (Fed piece ∷ events) t = Run (fed s piece) events t
Run s (Answered answer ∷ events) t = (mid : Stream) × Gives s answer mid × Run mid events t

-- all that was fed
abbrev pub fed_bytes : List Event → List ℕ
fed_bytes [] = []
fed_bytes (Fed piece ∷ events) = piece ++ fed_bytes events
fed_bytes (Answered answer ∷ events) = fed_bytes events

-- the frames that were given out
abbrev pub given : List Event → List Frame
given [] = []
given (Fed piece ∷ events) = given events
given (Answered (Ok (Some frame)) ∷ events) = frame ∷ given events
given (Answered (Ok None) ∷ events) = given events
given (Answered (Err fault) ∷ events) = given events

abbrev pub spelling : Frame → List ℕ
spelling frame = frame_bytes frame.kind frame.body

-- frames one behind another, where a startup packet is awaited or not, and so many bytes stand before
abbrev pub Stand : Side → ℕ → Bool → ℕ → List Frame → Type 0
Stand who limit opening before [] = Unit {0}
Stand who limit opening before (frame ∷ frames) =
    IsFrame who limit opening frame.kind frame.body × (frame.offset ≡ before % 2 ^ 64)
    × Stand who limit (opening && asks_encryption frame.body) (before + length (spelling frame)) frames

-- whether a startup packet is awaited behind these frames
abbrev pub opening_behind : Bool → List Frame → Bool
opening_behind opening [] = opening
opening_behind opening (frame ∷ frames) = opening_behind (opening && asks_encryption frame.body) frames

-- the frames given out and the bytes left spell what was fed
pub record IsSpelled (who : Side) (limit : ℕ) (events : List Event) (t : Stream) : Type 0 where
  pub bytes : fed_bytes events ≡ flat_map spelling (given events) ++ t.left
  pub frames : Stand who limit (opens who) 0 (given events)
  pub opening : t.opening ≡ opening_behind (opens who) (given events)
  pub offset : t.offset ≡ length (flat_map spelling (given events)) % 2 ^ 64
  pub side : t.who ≡ who
  pub bound : t.limit ≡ limit

-- no frame stands at the front
abbrev pub IsDrained : Stream → Type 0
IsDrained t = (kind : ℕ) (body rest : List ℕ) → IsFrame t.who t.limit t.opening kind body → t.left ≡ frame_bytes kind body ++ rest → ⊥
