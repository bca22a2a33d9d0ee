-- What stands first in a client's stream, by the frame that is given.
use Rattle.std.proofs.Common.{◌≡◌, ℕ, Bool, true, false, List, [], ◌++◌, Option, None, Result, Ok, Err, refl, sym, ap, subst, ◌∙◌, arith}
use Rattle.std.specs.Prelude.{IfOk}
use Rattle.pg_wire.specs.declared.frame.Side.{Side}
use Rattle.pg_wire.specs.declared.frame.Side.TheVariants as side
use Rattle.pg_wire.specs.declared.frame.Frame.{Frame}
use Rattle.pg_wire.specs.declared.frame.FrameFault.{FrameFault}
use Rattle.pg_wire.specs.declared.frame.NextFault.{NextFault}
use Rattle.pg_wire.specs.declared.frame.NextFault.TheVariants as why
use Rattle.pg_wire.specs.declared.frame.MessageFault.TheVariants as message
use Rattle.pg_wire.specs.declared.front.Pair.{Pair}
use Rattle.pg_wire.specs.declared.front.Front.{Front}
use Rattle.pg_wire.specs.declared.front.Front.TheVariants as fronts
use Rattle.pg_wire.specs.Frames.{frame_bytes, IsFrame, HasFault, IsUnfinished}
use Rattle.pg_wire.specs.Streams.{Stream, behind, GivesFrame, Gives}
use Rattle.pg_wire.specs.Fronts.{IsFront, str, front_kind, front_body}
use Rattle.pg_wire.specs.Reading.{SpellsFront}
use Rattle.session_model.specs.declared.encryption.Encryption.{Encryption}
use Rattle.session_model.specs.declared.encryption.Encryption.TheVariants as encryption
use Rattle.session_model.specs.declared.meaning.Meaning.{Meaning}
use Rattle.session_model.specs.declared.meaning.Meaning.TheVariants as meaning
use Rattle.session_model.specs.Meanings.{Means}
use Rattle.session_model.specs.Requests.{Request, Phase, is_opening, IsQuery, IsSaid, asking, message_of, message_limit}
use Rattle.session_model.specs.BadMessages.{StandsFirst, is_placed, IsBad}
use Rattle.lab_session.specs.Understood.{IsUnderstood}
use Rattle.session_model.proofs.Meant.{served_is}
use Rattle.lab_session.specs.Answering.{phase_of, request_of, Takes, NextGives, CanAnswer}
use Rattle.lab_session.specs.declared.said.Said.{Said}
use Rattle.lab_session.specs.declared.said.Said.TheVariants as said
use Rattle.lab_session.specs.declared.said.Next.{Next}
use Rattle.lab_session.specs.declared.said.Next.TheVariants as next

pub opening_of : (opening : Bool) → is_opening (phase_of opening) ≡ opening
opening_of true = refl
opening_of false = refl

-- the side and limit of a client's stream, written out
client_frame : (s : Stream) (kind : ℕ) (body : List ℕ) → s.who ≡ side.Client → s.limit ≡ message_limit → IsFrame s.who s.limit s.opening kind body → IsFrame side.Client message_limit s.opening kind body
client_frame s kind body ew el f = subst (λ (n : ℕ). IsFrame side.Client n s.opening kind body) el (subst (λ (w : Side). IsFrame w s.limit s.opening kind body) ew f)

client_fault : (s : Stream) (fault : FrameFault) → s.who ≡ side.Client → s.limit ≡ message_limit → HasFault s.who s.limit s.opening s.left fault → HasFault side.Client message_limit s.opening s.left fault
client_fault s fault ew el f = subst (λ (n : ℕ). HasFault side.Client n s.opening s.left fault) el (subst (λ (w : Side). HasFault w s.limit s.opening s.left fault) ew f)

client_unfinished : (s : Stream) → s.who ≡ side.Client → s.limit ≡ message_limit → IsUnfinished s.who s.limit s.opening s.left → IsUnfinished side.Client message_limit (is_opening (phase_of s.opening)) s.left
client_unfinished s ew el u =
    subst (λ (b : Bool). IsUnfinished side.Client message_limit b s.left) (sym (opening_of s.opening))
    (subst (λ (n : ℕ). IsUnfinished side.Client n s.opening s.left) el (subst (λ (w : Side). IsUnfinished w s.limit s.opening s.left) ew u))

-- ---- no frame

pub bad_fault : (s t : Stream) (cause : NextFault) (offset place : ℕ) (fault told : FrameFault) → s.who ≡ side.Client → s.limit ≡ message_limit → cause ≡ why.Frame offset fault → place ≡ offset → told ≡ fault → Gives s (Err cause) t
    → (place ≡ s.offset) × IsBad (phase_of s.opening) s.left (message.Frame told)
bad_fault s t cause offset place fault told ew el e ep et gives =
    let h = subst (λ (w : NextFault). Gives s (Err w) t) e gives in
    let bad = subst (λ (b : Bool). HasFault side.Client message_limit b s.left fault) (sym (opening_of s.opening)) (client_fault s fault ew el h.1) in
    (ep ∙ h.0, subst (λ (f : FrameFault). IsBad (phase_of s.opening) s.left (message.Frame f)) (sym et) bad)

pub waiting : (s t : Stream) (found : Option Frame) → s.who ≡ side.Client → s.limit ≡ message_limit → found ≡ None → Gives s (Ok found) t → IsUnfinished side.Client message_limit (is_opening (phase_of s.opening)) s.left × (t ≡ s)
waiting s t found ew el e gives =
    let h = subst (λ (o : Option Frame). Gives s (Ok o) t) e gives in
    (client_unfinished s ew el h.0, h.1)

-- ---- frames

asking_placed : (opening : Bool) (how : Encryption) → IsFrame side.Client message_limit opening (front_kind (asking how)) (front_body (asking how)) → IsSaid (phase_of opening) (Request.Encrypts how)
asking_placed true how f = tt
asking_placed false encryption.Tls f = let t : false ≡ true = f.0 in absurd cc
asking_placed false encryption.Gss f = let t : false ≡ true = f.0 in absurd cc

opens_placed : (opening : Bool) (params : List Pair) → IsFront (fronts.Startup params) → IsFrame side.Client message_limit opening 0 (front_body (fronts.Startup params)) → IsSaid (phase_of opening) (Request.Opens params)
opens_placed true params is f = (is, f)
opens_placed false params is f = let t : false ≡ true = f.0 in absurd cc

-- a text stands in a frame behind the startup message alone
query_placed : (opening : Bool) (text : List ℕ) (what : Meaning) (r : Request) → (IsQuery text what → IsSaid Phase.Serving r) → IsFront (fronts.Query text) → Means text what → IsFrame side.Client message_limit opening 81 (str text) → IsSaid (phase_of opening) r
query_placed true text what r placed is means f = absurd (omega (arith, f.0))
query_placed false text what r placed is means f = placed (record { no_zero = is; framed = f; means = means })

leaves_placed : (opening : Bool) → IsFrame side.Client message_limit opening 88 [] → IsSaid (phase_of opening) Request.Leaves
leaves_placed true f = absurd (omega (arith, f.0))
leaves_placed false f = tt

taken : (s t : Stream) (frame : Frame) (r : Request) → GivesFrame s frame t → frame.kind ≡ front_kind (message_of r) → frame.body ≡ front_body (message_of r) → IsSaid (phase_of s.opening) r → Takes s r t
taken s t frame r gives ek eb is = record {
  rest = gives.rest;
  placed = is;
  front = gives.front ∙ ap (λ (k : ℕ). frame_bytes k frame.body ++ gives.rest) ek ∙ ap (λ (b : List ℕ). frame_bytes (front_kind (message_of r)) b ++ gives.rest) eb;
  after = gives.after ∙ ap (λ (k : ℕ). behind s k frame.body gives.rest) ek ∙ ap (λ (b : List ℕ). behind s (front_kind (message_of r)) b gives.rest) eb;
}

frame_of : (s t : Stream) (frame : Frame) (m : Front) → s.who ≡ side.Client → s.limit ≡ message_limit → GivesFrame s frame t → frame.kind ≡ front_kind m → frame.body ≡ front_body m → IsFrame side.Client message_limit s.opening (front_kind m) (front_body m)
frame_of s t frame m ew el gives ek eb =
    subst (λ (b : List ℕ). IsFrame side.Client message_limit s.opening (front_kind m) b) eb (subst (λ (k : ℕ). IsFrame side.Client message_limit s.opening k frame.body) ek (client_frame s frame.kind frame.body ew el gives.is))

-- a frame of this type and body stands first
stands : (s t : Stream) (frame : Frame) → s.who ≡ side.Client → s.limit ≡ message_limit → GivesFrame s frame t → StandsFirst (phase_of s.opening) s.left frame.kind frame.body
stands s t frame ew el gives = record {
  rest = gives.rest;
  framed = subst (λ (b : Bool). IsFrame side.Client message_limit b frame.kind frame.body) (sym (opening_of s.opening)) (client_frame s frame.kind frame.body ew el gives.is);
  front = gives.front;
}

bad_place : (s t : Stream) (frame : Frame) (m : Front) → s.who ≡ side.Client → s.limit ≡ message_limit → GivesFrame s frame t → SpellsFront frame.kind frame.body m → is_placed m (phase_of s.opening) ≡ false → IsBad (phase_of s.opening) s.left message.Place
bad_place s t frame m ew el gives h out =
    let first = stands s t frame ew el gives in
    let kind = subst (λ (k : ℕ). StandsFirst (phase_of s.opening) s.left k frame.body) h.1 first in
    (m, h.0, subst (λ (b : List ℕ). StandsFirst (phase_of s.opening) s.left (front_kind m) b) h.2 kind, out)

next_gives : (E : Type 0) (s t : Stream) (frame : Frame) (n : Next) → s.who ≡ side.Client → s.limit ≡ message_limit → GivesFrame s frame t → IsUnderstood frame.offset frame.kind frame.body n → NextGives {E = E} s (Ok n) t
next_gives E s t frame (next.Said (said.Encrypts how)) ew el gives h =
    ([], taken s t frame (Request.Encrypts how) gives h.1 h.2 (asking_placed s.opening how (frame_of s t frame (asking how) ew el gives h.1 h.2)))
next_gives E s t frame (next.Said (said.Opens params)) ew el gives h =
    ([], taken s t frame (Request.Opens params) gives h.1 h.2 (opens_placed s.opening params h.0 (frame_of s t frame (fronts.Startup params) ew el gives h.1 h.2)))
next_gives E s t frame (next.Said (said.Asks tree)) ew el gives h =
    (h.0, taken s t frame (Request.Asks h.0 tree) gives h.1.1 h.1.2 (query_placed s.opening h.0 (meaning.Serves tree) (Request.Asks h.0 tree) (λ q. q) h.1.0 h.2 (frame_of s t frame (fronts.Query h.0) ew el gives h.1.1 h.1.2)))
next_gives E s t frame (next.Said said.Empties) ew el gives h =
    (h.0, taken s t frame (Request.Empties h.0) gives h.1.1 h.1.2 (query_placed s.opening h.0 meaning.Nothing (Request.Empties h.0) (λ q. q) h.1.0 h.2 (frame_of s t frame (fronts.Query h.0) ew el gives h.1.1 h.1.2)))
next_gives E s t frame (next.Said (said.Refused cause)) ew el gives h =
    (h.0, taken s t frame (Request.Refused h.0 cause) gives h.1.1 h.1.2 (query_placed s.opening h.0 (meaning.Refused cause) (Request.Refused h.0 cause) (λ q. q) h.1.0 h.2 (frame_of s t frame (fronts.Query h.0) ew el gives h.1.1 h.1.2)))
next_gives E s t frame next.Leaves ew el gives h = taken s t frame Request.Leaves gives h.1 h.2 (leaves_placed s.opening (frame_of s t frame fronts.Terminate ew el gives h.1 h.2))
next_gives E s t frame (next.Bad offset (message.Frame fault)) ew el gives h = absurd h
next_gives E s t frame (next.Bad offset message.Body) ew el gives h = (h.0 ∙ gives.place, (frame.kind, frame.body, stands s t frame ew el gives, h.1))
next_gives E s t frame (next.Bad offset message.Place) ew el gives h = (h.0 ∙ gives.place, bad_place s t frame h.1.0 ew el gives h.1.1 (h.1.2 (phase_of s.opening)))
next_gives E s t frame (next.Bad offset message.Batch) ew el gives h = absurd h
next_gives E s t frame (next.Bad offset message.Shape) ew el gives h = absurd h
next_gives E s t frame next.Waiting ew el gives h = absurd h

-- what a frame asks is what stands first
pub frame_gives : (E : Type 0) (s t : Stream) (frame : Frame) (result : Result Next E) → s.who ≡ side.Client → s.limit ≡ message_limit → GivesFrame s frame t → IfOk result (IsUnderstood frame.offset frame.kind frame.body) → NextGives {E = E} s result t
frame_gives E s t frame (Ok n) ew el gives h = next_gives E s t frame n ew el gives h
frame_gives E s t frame (Err e) ew el gives h = tt

-- what was said in its place may be answered
pub can_said : (opening : Bool) (text : List ℕ) (what : Said) → IsSaid (phase_of opening) (request_of text what) → CanAnswer opening what
can_said true text (said.Encrypts how) h = refl
can_said true text (said.Opens params) h = (refl, h.0, h.1)
can_said true text (said.Asks tree) h = absurd h
can_said true text said.Empties h = absurd h
can_said true text (said.Refused cause) h = absurd h
can_said false text (said.Encrypts how) h = absurd h
can_said false text (said.Opens params) h = absurd h
can_said false text (said.Asks tree) h = let s = served_is text tree h.means in (refl, s.0, s.1)
can_said false text said.Empties h = refl
can_said false text (said.Refused cause) h = refl
