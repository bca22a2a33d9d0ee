use Rattle.wire_views.proofs.Written.{one_byte}
use Rattle.wire_views.proofs.draft.overwrite.Goals as goal

pub bytes-preserved : goal.bytes-preserved
bytes-preserved c = one_byte c.args.place c.bytes.index c.args.bytes.now c.args.out.now.items c.bytes.out.items c.bytes-test.true c.bytes.invariant
