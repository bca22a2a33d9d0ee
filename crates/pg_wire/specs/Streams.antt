-- A stream that comes in pieces, as a framer sees it.
use Rattle.std.specs.Prelude.{ℕ, ◌≡◌, ◌+◌, ◌%◌, ◌^◌, Bool, true, false, ◌&&◌, List, [], ◌++◌, length, Option, Some, None, Result, Ok, Err}
use Rattle.pg_wire.specs.declared.frame.Side.{Side}
use Rattle.pg_wire.specs.declared.frame.Side.TheVariants as side
use Rattle.pg_wire.specs.declared.frame.Frame.{Frame}
use Rattle.pg_wire.specs.declared.frame.FrameView.{FrameView}
use Rattle.pg_wire.specs.declared.frame.BadFrame.{BadFrame}
use Rattle.pg_wire.specs.declared.frame.NextFault.{NextFault}
use Rattle.pg_wire.specs.declared.frame.NextFault.TheVariants as next
use Rattle.pg_wire.specs.Frames.{frame_bytes, IsFrame, asks_encryption, HasFault, IsUnfinished}

pub record Stream : Type 0 where
  pub who : Side
  pub limit : ℕ
  -- whether a startup packet is awaited
  pub opening : Bool
  -- where the first byte that is left stands
  pub offset : ℕ
  -- what was fed and not given out
  pub left : List ℕ

abbrev pub opens : Side → Bool
opens side.Client = true
opens side.Backend = false

-- nothing was fed
abbrev pub new_stream : Side → ℕ → Stream
new_stream who limit = record { who = who; limit = limit; opening = opens who; offset = 0; left = [] }

abbrev pub fed : Stream → List ℕ → Stream
fed s piece = record s { left = s.left ++ piece }

-- the stream behind a frame: regular messages begin behind the first startup packet that doesn't ask for encryption
abbrev pub behind : Stream → ℕ → List ℕ → List ℕ → Stream
behind s kind body rest = record s { opening = s.opening && asks_encryption body; offset = (s.offset + length (frame_bytes kind body)) % 2 ^ 64; left = rest }

-- the frame that stands at the front
pub record GivesFrame (s : Stream) (frame : Frame) (t : Stream) : Type 0 where
  pub rest : List ℕ
  pub is : IsFrame s.who s.limit s.opening frame.kind frame.body
  pub place : frame.offset ≡ s.offset
  pub front : s.left ≡ frame_bytes frame.kind frame.body ++ rest
  pub after : t ≡ behind s frame.kind frame.body rest

-- what is answered, and the stream then
abbrev pub Gives : Stream → Result (Option Frame) NextFault → Stream → Type 0
Gives s (Ok (Some frame)) t = GivesFrame s frame t
Gives s (Ok None) t = IsUnfinished s.who s.limit s.opening s.left × (t ≡ s)
Gives s (Err (next.Frame offset fault)) t = (offset ≡ s.offset) × HasFault s.who s.limit s.opening s.left fault × (t ≡ s)
Gives s (Err next.NoMemory) t = t ≡ s

-- the frame that is seen, and its bytes as they came
abbrev pub frame_of : FrameView → Frame
frame_of v = record { offset = v.offset; kind = v.kind; body = v.body.now }

-- the frame stands at the front, and behind it the stream would be this one
pub record SeesFrame (s : Stream) (view : FrameView) : Type 0 where
  pub after : Stream
  pub gives : GivesFrame s (frame_of view) after
  pub whole : view.bytes.now ≡ frame_bytes view.kind view.body.now

-- what is seen at the front
abbrev pub Sees : Stream → Result (Option FrameView) BadFrame → Type 0
Sees s (Ok (Some view)) = SeesFrame s view
Sees s (Ok None) = IsUnfinished s.who s.limit s.opening s.left
Sees s (Err bad) = (bad.offset ≡ s.offset) × HasFault s.who s.limit s.opening s.left bad.fault

-- the frame that stands at the front was let go, where one stands there
abbrev pub Passes : Stream → Bool → Stream → Type 0
Passes s true t = (frame : Frame) × GivesFrame s frame t
Passes s false t = (t ≡ s) × ((frame : Frame) (u : Stream) → GivesFrame s frame u → ⊥)
