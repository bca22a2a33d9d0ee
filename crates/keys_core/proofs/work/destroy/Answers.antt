use Rattle.std.proofs.Common.{sym, subst}
use Rattle.keystore.specs.Kept.{IsKept}
use Rattle.ring_file.specs.Form.{IsFileRing}
use Rattle.keys_core.proofs.Again.{retired_file_ring, makes_file}
use Rattle.keys_core.proofs.work.destroy.Goals as goal

pub returns-in-Ok-key_line-clause-kept : goal.returns-in-Ok-key_line-clause-kept
returns-in-Ok-key_line-clause-kept g c rules =
    makes_file c.args.master.now c.changed.result
    (c.changed.ensures.kept (λ kept. subst IsFileRing (sym c.in-Ok.ensures.ring) (retired_file_ring c.args.ring.now c.args.who.now c.args.id rules (subst IsKept c.in-Ok.ensures.ring kept))))
