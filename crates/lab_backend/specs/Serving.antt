-- The steps of the backend: reading a request, and replying to it.
use Rattle.std.specs.Prelude.{ℕ, ◌≡◌, ◌⊎◌, List, ◌++◌, Result, Ok, Err}
use Rattle.std.specs.List.{flat_map, AllByRecursion}
use Rattle.pg_wire.specs.declared.front.Front.{Front}
use Rattle.pg_wire.specs.declared.front.Front.TheVariants as fronts
use Rattle.pg_wire.specs.declared.back.Back.{Back}
use Rattle.pg_wire.specs.Streams.{Stream, behind}
use Rattle.pg_wire.specs.Fronts.{front_kind, front_body}
use Rattle.pg_wire.specs.Backs.{back_frame}
use Rattle.pg_wire.specs.Reading.{SpellsFront}
use Rattle.table_machine.specs.declared.cell.Cell.{Cell}
use Rattle.table_machine.specs.Tables.{Table}
use Rattle.lab_backend.specs.declared.requests.Next.{Next}
use Rattle.lab_backend.specs.declared.requests.Next.TheVariants as next
use Rattle.machine_replies.specs.Replies.{IsWritable}
use Rattle.lab_backend.specs.Sessions.{Begins, BeginsNone, NeverBegins, MayTake}
use Rattle.lab_backend.specs.Backend.{Replies}

-- a message that gets a reply
abbrev pub IsServed : Front → Type 0
IsServed (fronts.Startup params) = Unit {0}
IsServed (fronts.Query text) = Unit {0}
IsServed _ = ⊥

-- what a frame is read as
abbrev pub ReadsRequest : {E : Type 0} → ℕ → List ℕ → Result Next E → Type 0
ReadsRequest kind body (Ok (next.Request request)) = SpellsFront kind body request × IsServed request
ReadsRequest kind body (Ok next.Waiting) = ⊥
ReadsRequest kind body (Ok next.Over) = (request : Front) → SpellsFront kind body request → IsServed request → ⊥
ReadsRequest kind body (Err e) = Unit {0}

-- what is taken from a stream
abbrev pub TakesRequest : {E : Type 0} → Stream → Result Next E → Stream → Type 0
TakesRequest s (Ok (next.Request request)) t = (rest : List ℕ) × Begins s request rest × (t ≡ behind s (front_kind request) (front_body request) rest)
TakesRequest s (Ok next.Waiting) t = BeginsNone s × (t ≡ s)
TakesRequest s (Ok next.Over) t = NeverBegins s
TakesRequest s (Err e) t = MayTake s t

-- the messages of a reply were appended
pub record Replied (number : ℕ) (request : Front) (tables after : List (Table Cell)) (old new : List ℕ) : Type 0 where
  pub messages : List Back
  pub replies : Replies number request tables messages after
  pub appended : new ≡ old ++ flat_map back_frame messages
  pub writable : AllByRecursion IsWritable messages

-- the tables stayed, or are those after the request
abbrev pub MayReply : ℕ → Front → List (Table Cell) → List (Table Cell) → Type 0
MayReply number request tables after = (after ≡ tables) ⊎ ((messages : List Back) × Replies number request tables messages after)
