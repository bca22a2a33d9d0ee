use Rattle.std.proofs.Common.{sym, ◌∙◌}
use Rattle.ring_file.proofs.Sealed.{found_body, only_body, only_none}
use Rattle.ring_file.proofs.file.read_ring.Goals as goal

pub returns-in-Ok-Some-clause-found : goal.returns-in-Ok-Some-clause-found
returns-in-Ok-Some-clause-found g c =
    found_body (g.A.Aead.sealed c.args.aead.now) (g.A.Aead.opened c.args.aead.now) (g.met.A.Aead.only c.args.aead.now) c.args.master.now c.args.bytes.now c.in-Ok-Some.body c.judged.result (sym c.in-Ok-Some.field-0-is ∙ c.in-Ok-Some.ensures) (rw c.as_slice.ensures at c.judged.ensures.spelled)

pub returns-in-Ok-Some-clause-only : goal.returns-in-Ok-Some-clause-only
returns-in-Ok-Some-clause-only g c =
    only_body (g.A.Aead.sealed c.args.aead.now) (g.A.Aead.opened c.args.aead.now) (g.met.A.Aead.opens c.args.aead.now) c.args.master.now c.args.bytes.now c.in-Ok-Some.body c.judged.result (sym c.in-Ok-Some.field-0-is ∙ c.in-Ok-Some.ensures) (rw c.as_slice.ensures at c.judged.ensures.read)

pub returns-in-Ok-None-clause-only : goal.returns-in-Ok-None-clause-only
returns-in-Ok-None-clause-only g c =
    only_none (g.A.Aead.sealed c.args.aead.now) (g.A.Aead.opened c.args.aead.now) (g.met.A.Aead.opens c.args.aead.now) c.args.master.now c.args.bytes.now (sym c.in-Ok-None.field-0-is ∙ c.in-Ok-None.ensures)
