-- One frame stands at the front, and one stream behind it.
use Rattle.std.proofs.Common.{◌≡◌, ℕ, List, ◌++◌, refl, sym, ◌∙◌}
use Rattle.pg_wire.specs.declared.frame.Frame.{Frame}
use Rattle.pg_wire.specs.Streams.{Stream, behind, GivesFrame}
use Rattle.pg_wire.proofs.FrameLaws.{one_frame}

same_frame : (at offset k kind : ℕ) (b body : List ℕ) → at ≡ offset → k ≡ kind → b ≡ body
    → ◌≡◌ {A = Frame} (record { offset = at; kind = k; body = b }) (record { offset = offset; kind = kind; body = body })
same_frame at offset k kind b body p q r = rw (p, q, r) refl

pub given_once : (s t u : Stream) (frame other : Frame) → GivesFrame s frame t → GivesFrame s other u → frame ≡ other
given_once s t u frame other g h =
    let one = one_frame s.who s.limit s.opening frame.kind other.kind frame.body other.body g.rest h.rest g.is h.is (sym g.front ∙ h.front) in
    same_frame frame.offset other.offset frame.kind other.kind frame.body other.body (g.place ∙ sym h.place) one.0 one.1

same_behind : (s : Stream) (k j : ℕ) (b c x y : List ℕ) → k ≡ j → b ≡ c → x ≡ y → behind s k b x ≡ behind s j c y
same_behind s k j b c x y p q r = rw (p, q, r) refl

pub left_once : (s t u : Stream) (frame other : Frame) → GivesFrame s frame t → GivesFrame s other u → t ≡ u
left_once s t u frame other g h =
    let one = one_frame s.who s.limit s.opening frame.kind other.kind frame.body other.body g.rest h.rest g.is h.is (sym g.front ∙ h.front) in
    g.after ∙ same_behind s frame.kind other.kind frame.body other.body g.rest h.rest one.0 one.1 one.2 ∙ sym h.after
