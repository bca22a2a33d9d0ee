use Rattle.wire_views.proofs.Written.{SoFar}
use Rattle.wire_views.proofs.draft.overwrite.Given as goal

abbrev pub invariant-bytes : goal.invariant-bytes
invariant-bytes l = SoFar l.place l.index l.bytes l.fn.out.items l.out.items
