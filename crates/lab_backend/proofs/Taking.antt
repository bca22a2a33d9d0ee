-- What a frame is read as stands first in the stream.
use Rattle.std.proofs.Common.{◌≡◌, ℕ, Bool, true, false, List, ◌++◌, Result, Ok, Err, inr, sym, ap, ◌∙◌, arith, append_assoc}
use Rattle.pg_wire.specs.declared.frame.Side.TheVariants as side
use Rattle.pg_wire.specs.declared.frame.Frame.{Frame}
use Rattle.pg_wire.specs.declared.frame.FrameFault.{FrameFault}
use Rattle.pg_wire.specs.declared.front.Front.{Front}
use Rattle.pg_wire.specs.declared.front.Front.TheVariants as fronts
use Rattle.pg_wire.specs.Frames.{IsFrame, HasFault, IsUnfinished, frame_bytes}
use Rattle.pg_wire.specs.Streams.{Stream, GivesFrame}
use Rattle.pg_wire.specs.Fronts.{front_kind, front_body, front_frame}
use Rattle.lab_backend.specs.declared.requests.Next.{Next}
use Rattle.lab_backend.specs.declared.requests.Next.TheVariants as next
use Rattle.lab_backend.specs.Sessions.{IsRequest, BeginsNone, NeverBegins}
use Rattle.lab_backend.specs.Serving.{IsServed, ReadsRequest, TakesRequest}
use Rattle.pg_wire.proofs.FrameLaws.{one_frame, fault_is_no_frame, fault_stays}

pub placed : (opening : Bool) (limit : ℕ) (request : Front) → IsFrame side.Client limit opening (front_kind request) (front_body request) → IsServed request → IsRequest opening request
placed true limit (fronts.Startup params) h s = tt
placed true limit (fronts.Query text) h s = absurd (omega (arith, h.0))
placed true limit _ h s = absurd s
placed false limit (fronts.Startup params) h s = absurd (cc (h.0))
placed false limit (fronts.Query text) h s = tt
placed false limit _ h s = absurd s

pub served : (opening : Bool) (request : Front) → IsRequest opening request → IsServed request
served true (fronts.Startup params) h = tt
served true (fronts.Query text) h = tt
served true _ h = absurd h
served false (fronts.Startup params) h = tt
served false (fronts.Query text) h = tt
served false _ h = absurd h

-- the first frame, with its parts
begun : (s : Stream) (kind : ℕ) (body rest : List ℕ) (request : Front) → IsFrame side.Client s.limit s.opening kind body → s.left ≡ frame_bytes kind body ++ rest
    → kind ≡ front_kind request → body ≡ front_body request → IsServed request
    → IsFrame side.Client s.limit s.opening (front_kind request) (front_body request) × (s.left ≡ front_frame request ++ rest)
begun s kind body rest request is front k b h =
    let framed : IsFrame side.Client s.limit s.opening (front_kind request) (front_body request) = rw (← k, ← b) is in
    let first : s.left ≡ front_frame request ++ rest = rw (← k, ← b) front in
    (framed, first)

pub takes : {E : Type 0} (s t : Stream) (frame : Frame) (read : Result Next E) → s.who ≡ side.Client → GivesFrame s frame t → ReadsRequest frame.kind frame.body read → TakesRequest s read t
takes s t frame (Ok (next.Request request)) who g h =
    let is : IsFrame side.Client s.limit s.opening frame.kind frame.body = rw who at g.is in
    let found = begun s frame.kind frame.body g.rest request is g.front h.0.1 h.0.2 h.1 in (
      g.rest,
      record { placed = placed s.opening s.limit request found.0 h.1; spelled = h.0.0; framed = found.0; front = found.1 },
      rw (← h.0.1, ← h.0.2) g.after,
    )
takes s t frame (Ok next.Waiting) who g h = absurd h
takes s t frame (Ok next.Over) who g h =
    λ more request rest b.
    let is : IsFrame side.Client s.limit s.opening frame.kind frame.body = rw who at g.is in
    let front : frame_bytes frame.kind frame.body ++ (g.rest ++ more) ≡ s.left ++ more = sym (ap (λ w. w ++ more) g.front ∙ append_assoc (frame_bytes frame.kind frame.body) g.rest more) in
    let same = one_frame side.Client s.limit s.opening frame.kind (front_kind request) frame.body (front_body request) (g.rest ++ more) rest is b.framed (front ∙ b.front) in
    h request (b.spelled, same.0, same.1) (served s.opening request b.placed)
takes s t frame (Err e) who g h =
    let is : IsFrame side.Client s.limit s.opening frame.kind frame.body = rw who at g.is in
    inr (record { kind = frame.kind; body = frame.body; rest = g.rest; is = is; front = g.front; after = g.after })

pub unfinished-none : (s : Stream) → s.who ≡ side.Client → IsUnfinished s.who s.limit s.opening s.left → BeginsNone s
unfinished-none s who h =
    λ request rest b. h.no_frame (front_kind request) (front_body request) rest (rw who b.framed) b.front

-- a fault stays, whatever comes
pub fault-never : (s : Stream) (fault : FrameFault) → s.who ≡ side.Client → HasFault s.who s.limit s.opening s.left fault → NeverBegins s
fault-never s fault who h =
    λ more request rest b.
    fault_is_no_frame s.who s.limit s.opening (s.left ++ more) fault (front_kind request) (front_body request) rest (fault_stays s.who s.limit s.opening s.left more fault h) (rw who b.framed) b.front
