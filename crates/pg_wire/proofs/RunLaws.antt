-- The frames of a stream over many calls.
use Rattle.std.proofs.Common.{◌≡◌, ℕ, ◌+◌, ◌%◌, ◌^◌, Bool, List, [], ◌∷◌, ◌++◌, length, Some, None, Ok, Err, refl, sym, ap, subst, ◌∙◌, append_assoc, arith, inl, inr, ◌⊎◌}
use Rattle.std.specs.Prelude.{◌&&◌}
use Rattle.std.specs.List.{flat_map}
use Rattle.std.proofs.lemmas.List.{append-nil, length-append}
use Rattle.pg_wire.specs.declared.frame.Side.{Side}
use Rattle.pg_wire.specs.declared.frame.Frame.{Frame}
use Rattle.pg_wire.specs.declared.frame.NextFault.TheVariants as next
use Rattle.pg_wire.specs.Frames.{frame_bytes, IsFrame, asks_encryption}
use Rattle.pg_wire.specs.Streams.{Stream, opens, new_stream, fed, behind, GivesFrame}
use Rattle.pg_wire.specs.Runs.{Event, Fed, Answered, Run, fed_bytes, given, spelling, Stand, opening_behind, IsSpelled, IsDrained}
use Rattle.pg_wire.specs.Begins.{Begins}
use Rattle.pg_wire.proofs.FrameLaws.{one_frame}

-- a run from a stream before which so many bytes were given out
record GoesOn (s : Stream) (before : ℕ) (events : List Event) (t : Stream) : Type 0 where
  bytes : s.left ++ fed_bytes events ≡ flat_map spelling (given events) ++ t.left
  frames : Stand s.who s.limit s.opening before (given events)
  opening : t.opening ≡ opening_behind s.opening (given events)
  offset : t.offset ≡ (before + length (flat_map spelling (given events))) % 2 ^ 64
  side : t.who ≡ s.who
  bound : t.limit ≡ s.limit

stays : (s t : Stream) (before : ℕ) → t ≡ s → s.offset ≡ before % 2 ^ 64 → GoesOn s before [] t
stays s t before e place = rw e (record {
  bytes = append-nil s.left;
  frames = tt;
  opening = refl;
  offset = place ∙ ap (λ (n : ℕ). n % 2 ^ 64) (omega arith);
  side = refl;
  bound = refl;
})

fed_more : (s t : Stream) (before : ℕ) (piece : List ℕ) (events : List Event) → GoesOn (fed s piece) before events t → GoesOn s before (Fed piece ∷ events) t
fed_more s t before piece events h = record {
  bytes = sym (append_assoc s.left piece (fed_bytes events)) ∙ h.bytes;
  frames = h.frames;
  opening = h.opening;
  offset = h.offset;
  side = h.side;
  bound = h.bound;
}

-- the place behind a frame
place_behind : (offset before size : ℕ) → offset ≡ before % 2 ^ 64 → (offset + size) % 2 ^ 64 ≡ (before + size) % 2 ^ 64
place_behind offset before size e = omega arith

frame_more : (s : Stream) (before : ℕ) (frame : Frame) (rest : List ℕ) (t : Stream) (events : List Event) → s.offset ≡ before % 2 ^ 64 → IsFrame s.who s.limit s.opening frame.kind frame.body → frame.offset ≡ s.offset
    → s.left ≡ frame_bytes frame.kind frame.body ++ rest → GoesOn (behind s frame.kind frame.body rest) (before + length (spelling frame)) events t → GoesOn s before (Answered (Ok (Some frame)) ∷ events) t
frame_more s before frame rest t events place is at front h =
    let more = flat_map spelling (given events) in record {
      bytes = ap (λ (xs : List ℕ). xs ++ fed_bytes events) front ∙ append_assoc (spelling frame) rest (fed_bytes events)
          ∙ ap (λ (xs : List ℕ). spelling frame ++ xs) h.bytes ∙ sym (append_assoc (spelling frame) more t.left);
      frames = (is, at ∙ place, h.frames);
      opening = h.opening;
      offset = h.offset ∙ ap (λ (n : ℕ). n % 2 ^ 64) (omega (arith, length-append (spelling frame) more));
      side = h.side;
      bound = h.bound;
    }

goes_on : (events : List Event) (s t : Stream) (before : ℕ) → s.offset ≡ before % 2 ^ 64 → Run s events t → GoesOn s before events t
goes_on [] s t before place run = stays s t before run place
goes_on (Fed piece ∷ events) s t before place run = fed_more s t before piece events (goes_on events (fed s piece) t before place run)
goes_on (Answered (Ok (Some frame)) ∷ events) s t before place run =
    let g : GivesFrame s frame run.0 = run.1 in
    let next = behind s frame.kind frame.body g.rest in
    let after : Run next events t = subst (λ (m : Stream). Run m events t) g.after run.2 in
    frame_more s before frame g.rest t events place g.is g.place g.front (goes_on events next t (before + length (spelling frame)) (place_behind s.offset before (length (spelling frame)) place) after)
goes_on (Answered (Ok None) ∷ events) s t before place run =
    let after : Run s events t = subst (λ (m : Stream). Run m events t) run.1.1 run.2 in
    let h = goes_on events s t before place after in
    record { bytes = h.bytes; frames = h.frames; opening = h.opening; offset = h.offset; side = h.side; bound = h.bound }
goes_on (Answered (Err (next.Frame offset fault)) ∷ events) s t before place run =
    let after : Run s events t = subst (λ (m : Stream). Run m events t) run.1.2 run.2 in
    let h = goes_on events s t before place after in
    record { bytes = h.bytes; frames = h.frames; opening = h.opening; offset = h.offset; side = h.side; bound = h.bound }
goes_on (Answered (Err next.NoMemory) ∷ events) s t before place run =
    let after : Run s events t = subst (λ (m : Stream). Run m events t) run.1 run.2 in
    let h = goes_on events s t before place after in
    record { bytes = h.bytes; frames = h.frames; opening = h.opening; offset = h.offset; side = h.side; bound = h.bound }

pub stream_spelled : (who : Side) (limit : ℕ) (events : List Event) (t : Stream) → Run (new_stream who limit) events t → IsSpelled who limit events t
stream_spelled who limit events t run =
    let h = goes_on events (new_stream who limit) t 0 refl run in
    record { bytes = h.bytes; frames = h.frames; opening = h.opening; offset = h.offset ∙ ap (λ (n : ℕ). n % 2 ^ 64) (omega arith); side = h.side; bound = h.bound }

-- ---- one stream, cut in two ways

-- the frames of which one list begins the other, and what is left behind the shorter one
abbrev Apart : List Frame → List Frame → List ℕ → List ℕ → Type 0
Apart fs gs x y = ((rest : List Frame) × (gs ≡ fs ++ rest) × (x ≡ flat_map spelling rest ++ y)) ⊎ ((rest : List Frame) × (fs ≡ gs ++ rest) × (y ≡ flat_map spelling rest ++ x))

one_more : (f g : Frame) (fs gs : List Frame) (x y : List ℕ) → f ≡ g → Apart fs gs x y → Apart (f ∷ fs) (g ∷ gs) x y
one_more f g fs gs x y e (inl h) = inl (h.0, cc h.1, h.2)
one_more f g fs gs x y e (inr h) = inr (h.0, cc h.1, h.2)

same_frame : (f g : Frame) → f.offset ≡ g.offset → f.kind ≡ g.kind → f.body ≡ g.body → f ≡ g
same_frame f g a b c = rw (← a, ← b, ← c) refl

apart : (who : Side) (limit : ℕ) (opening : Bool) (before : ℕ) (fs gs : List Frame) (x y : List ℕ) → Stand who limit opening before fs → Stand who limit opening before gs
    → flat_map spelling fs ++ x ≡ flat_map spelling gs ++ y → Apart fs gs x y
apart who limit opening before [] gs x y sf sg e = inl (gs, refl, e)
apart who limit opening before (f ∷ fs) [] x y sf sg e = inr (f ∷ fs, refl, sym e)
apart who limit opening before (f ∷ fs) (g ∷ gs) x y sf sg e =
    let more_f = flat_map spelling fs ++ x in
    let more_g = flat_map spelling gs ++ y in
    let parts : spelling f ++ more_f ≡ spelling g ++ more_g = sym (append_assoc (spelling f) (flat_map spelling fs) x) ∙ e ∙ append_assoc (spelling g) (flat_map spelling gs) y in
    let one = one_frame who limit opening f.kind g.kind f.body g.body more_f more_g sf.0 sg.0 parts in
    let same : f ≡ g = same_frame f g (sf.1 ∙ sym sg.1) one.0 one.1 in
    let stands : Stand who limit (opening && asks_encryption f.body) (before + length (spelling f)) gs = subst (λ (h : Frame). Stand who limit (opening && asks_encryption h.body) (before + length (spelling h)) gs) (sym same) sg.2 in
    one_more f g fs gs x y same (apart who limit (opening && asks_encryption f.body) (before + length (spelling f)) fs gs x y sf.2 stands one.2)

pub one_stream : (who : Side) (limit : ℕ) (a b : List Event) (s t : Stream) (more : List ℕ) → Run (new_stream who limit) a s → Run (new_stream who limit) b t → fed_bytes b ≡ fed_bytes a ++ more
    → Begins (given a) (given b) ⊎ Begins (given b) (given a)
one_stream who limit a b s t more ra rb e =
    let sa = stream_spelled who limit a s ra in
    let sb = stream_spelled who limit b t rb in
    let all : flat_map spelling (given a) ++ (s.left ++ more) ≡ flat_map spelling (given b) ++ t.left =
    sym (append_assoc (flat_map spelling (given a)) s.left more) ∙ ap (λ (xs : List ℕ). xs ++ more) (sym sa.bytes) ∙ sym e ∙ sb.bytes in
    elim (apart who limit (opens who) 0 (given a) (given b) (s.left ++ more) t.left sa.frames sb.frames all) [ inl h ↦ inl (h.0, h.1) | inr h ↦ inr (h.0, h.1) ]

-- frames behind frames
stand_behind : (who : Side) (limit : ℕ) (opening : Bool) (before : ℕ) (fs rest : List Frame) → Stand who limit opening before (fs ++ rest)
    → (more : ℕ) × Stand who limit (opening_behind opening fs) more rest
stand_behind who limit opening before [] rest h = (before, h)
stand_behind who limit opening before (f ∷ fs) rest h = stand_behind who limit (opening && asks_encryption f.body) (before + length (spelling f)) fs rest h.2

-- where no frame stands, no more frames are behind these
no_more : (who : Side) (limit : ℕ) (a : List Event) (s : Stream) (frames rest : List Frame) (y : List ℕ) → IsSpelled who limit a s → IsDrained s → Stand who limit (opens who) 0 frames
    → frames ≡ given a ++ rest → s.left ≡ flat_map spelling rest ++ y → frames ≡ given a
no_more who limit a s frames [] y sa drained stand e left = e ∙ append-nil (given a)
no_more who limit a s frames (f ∷ rest) y sa drained stand e left =
    let h = stand_behind who limit (opens who) 0 (given a) (f ∷ rest) (rw e at stand) in
    let is : IsFrame s.who s.limit s.opening f.kind f.body = rw (sa.side, sa.bound, sa.opening) h.1.0 in
    absurd (drained f.kind f.body (flat_map spelling rest ++ y) is (left ∙ append_assoc (spelling f) (flat_map spelling rest) y))

pub same_frames : (who : Side) (limit : ℕ) (a b : List Event) (s t : Stream) → Run (new_stream who limit) a s → Run (new_stream who limit) b t → fed_bytes a ≡ fed_bytes b → IsDrained s → IsDrained t
    → given a ≡ given b
same_frames who limit a b s t ra rb e ds dt =
    let sa = stream_spelled who limit a s ra in
    let sb = stream_spelled who limit b t rb in
    elim (apart who limit (opens who) 0 (given a) (given b) s.left t.left sa.frames sb.frames (sym sa.bytes ∙ e ∙ sb.bytes)) [
      | inl h ↦ sym (no_more who limit a s (given b) h.0 t.left sa ds sb.frames h.1 h.2)
      | inr h ↦ no_more who limit b t (given a) h.0 s.left sb dt sa.frames h.1 h.2
    ]
