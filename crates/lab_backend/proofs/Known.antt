-- The requests that stand first in sessions.
use Rattle.std.proofs.Common.{◌≡◌, true, [], sym, ◌∙◌, inr, append-nil}
use Rattle.pg_wire.specs.declared.frame.Side.TheVariants as side
use Rattle.pg_wire.specs.Fronts.{front_kind, front_body}
use Rattle.pg_wire.proofs.FrameLaws.{one_frame}
use Rattle.pg_wire.proofs.OneMessage.{one_front}
use Rattle.lab_backend.specs.Laws.{OneOldest}
use Rattle.lab_backend.specs.Sessions.{Session, StandsNone, NeverBegins, Waits}

-- what no request follows, whatever comes
pub over_found : (s t : Session) → t.over ≡ true → NeverBegins s.stream → StandsNone s × Waits s t
over_found s t e never = (
  λ request rest first.
      let b = first.begins in
      never [] request rest (record { placed = b.placed; spelled = b.spelled; framed = b.framed; front = append-nil s.stream.left ∙ b.front }),
  inr (e, never),
)

-- no frame begins another, and no two messages have one spelling
pub one_oldest : OneOldest
one_oldest s request other rest more first second =
    let a = first.begins in
    let b = second.begins in
    let same = one_frame side.Client s.stream.limit s.stream.opening (front_kind request) (front_kind other) (front_body request) (front_body other) rest more a.framed b.framed (sym a.front ∙ b.front) in
    (one_front request other a.spelled b.spelled same.0 same.1, same.2)
