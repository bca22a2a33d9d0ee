-- A frame that stands at the front of what is left.
use Rattle.std.proofs.Common.{◌≡◌, ℕ, ◌+◌, ◌-◌, ◌%◌, ◌^◌, ◌≤◌, Bool, List, ◌++◌, length, take, drop, refl, sym, ap, subst, ◌∙◌, arith}
use Rattle.std.specs.Prelude.{◌&&◌}
use Rattle.std.proofs.lemmas.List.{take_at, drop_at, length-append}
use Rattle.pg_wire.specs.declared.frame.Side.{Side}
use Rattle.pg_wire.specs.Frames.{frame_bytes, IsFrame, asks_encryption}
use Rattle.pg_wire.specs.declared.frame.Frame.{Frame}
use Rattle.pg_wire.specs.declared.frame.FrameView.{FrameView}
use Rattle.pg_wire.specs.Streams.{Stream, GivesFrame, SeesFrame}

-- what stands behind a frame, by how long the frame is
pub frame_size : (left : List ℕ) (kind : ℕ) (body rest : List ℕ) → left ≡ frame_bytes kind body ++ rest → length left - length rest ≡ length (frame_bytes kind body)
frame_size left kind body rest parts = omega (arith, ap length parts, length-append (frame_bytes kind body) rest)

pub frame_taken : (left : List ℕ) (kind : ℕ) (body rest : List ℕ) → left ≡ frame_bytes kind body ++ rest → take (length left - length rest) left ≡ frame_bytes kind body
frame_taken left kind body rest parts =
    ap (take (length left - length rest)) parts ∙ take_at (frame_bytes kind body) rest (length left - length rest) (sym (frame_size left kind body rest parts))

-- the frame is given out, and the stream goes on behind it
pub gives_frame : (s : Stream) (kind : ℕ) (body copy rest : List ℕ) (still : Bool) → IsFrame s.who s.limit s.opening kind body → s.left ≡ frame_bytes kind body ++ rest → copy ≡ body
    → still ≡ (s.opening && asks_encryption body)
    → GivesFrame s (record { offset = s.offset; kind = kind; body = copy })
    (record s { opening = still; offset = (s.offset + (length s.left - length rest)) % 2 ^ 64; left = drop (length s.left - length rest) s.left })
gives_frame s kind body copy rest still is parts copy-is still-is =
    let size = frame_size s.left kind body rest parts in
    let behind : drop (length s.left - length rest) s.left ≡ rest =
    ap (drop (length s.left - length rest)) parts ∙ drop_at (frame_bytes kind body) rest (length s.left - length rest) (sym size) in
    rw (copy-is, still-is) record {
      rest = rest;
      is = is;
      place = refl;
      front = parts;
      after = rw (behind, size) refl;
    }

-- the same, of what a framer holds
module _ (s : Stream) (who : Side) (limit : ℕ) (opening : Bool) (offset : ℕ) (held : List ℕ) (s-is : record { who = who; limit = limit; opening = opening; offset = offset; left = held } ≡ s) (left : List ℕ) (left-is : left ≡ s.left) (kind : ℕ) (body rest : List ℕ) (is : IsFrame who limit opening kind body) (parts : left ≡ frame_bytes kind body ++ rest) where
  pub gives_held : (at : ℕ) (copy : List ℕ) (still : Bool) (t : Stream) → at ≡ s.offset → copy ≡ body → still ≡ (opening && asks_encryption body)
      → t ≡ record s { opening = still; offset = (s.offset + (length left - length rest)) % 2 ^ 64; left = drop (length left - length rest) s.left }
      → GivesFrame s (record { offset = at; kind = kind; body = copy }) t
  gives_held at copy still t at-is copy-is still-is t-is =
      let frame : IsFrame s.who s.limit s.opening kind body = subst (λ (u : Stream). IsFrame u.who u.limit u.opening kind body) s-is is in
      let awaited : still ≡ (s.opening && asks_encryption body) = subst (λ (u : Stream). still ≡ (u.opening && asks_encryption body)) s-is still-is in
      let same = t-is ∙ ap (λ (l : List ℕ). record s { opening = still; offset = (s.offset + (length l - length rest)) % 2 ^ 64; left = drop (length l - length rest) s.left }) left-is in
      let there : Frame = record { offset = s.offset; kind = kind; body = copy } in
      let gives : GivesFrame s there t = subst (λ (u : Stream). GivesFrame s there u) (sym same) (gives_frame s kind body copy rest still frame (sym left-is ∙ parts) copy-is awaited) in
      subst (λ (n : ℕ). GivesFrame s (record { offset = n; kind = kind; body = copy }) t) (sym at-is) gives

  pub sees_held : (at : ℕ) (view : FrameView) → at ≡ s.offset → view.offset ≡ at → view.kind ≡ kind → view.body.now ≡ body → view.bytes.now ≡ take (length left - length rest) left → SeesFrame s view
  sees_held at view at-is offset-is kind-is body-is bytes-is =
      let t : Stream = record s { opening = opening && asks_encryption body; offset = (s.offset + (length left - length rest)) % 2 ^ 64; left = drop (length left - length rest) s.left } in
      record {
        after = t;
        gives = rw (offset-is, kind-is, body-is) (gives_held at body (opening && asks_encryption body) t at-is refl refl refl);
        whole = bytes-is ∙ frame_taken left kind body rest parts ∙ rw (kind-is, body-is) refl;
      }
