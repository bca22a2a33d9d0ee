use Rattle.std.proofs.Common.{◌≡◌, subst, sym, ◌∙◌, arith}
use Rattle.keystore.specs.Rings.{RingState}
use Rattle.ring_file.specs.Form.{ring_body, IsFileRing}
use Rattle.keystore.specs.Kept.{IsKept}
use Rattle.ring_file.proofs.Bodies.{body_takes}
use Rattle.ring_file.proofs.body.ring_of.Goals as goal

pub restored-requires : goal.restored-requires
restored-requires c = subst IsKept (sym c.parts.view_is) (body_takes c.args.body.now c.in-Ok.parts (λ i. omega (arith, c.type_inv.body i)) c.in-Ok.ensures).0.kept

pub returns-in-Ok-clause-spelled : goal.returns-in-Ok-clause-spelled
returns-in-Ok-clause-spelled c =
    subst (λ (r : RingState). IsFileRing r × (c.args.body.now ≡ ring_body r)) (sym (c.restored.ensures ∙ c.parts.view_is))
    (body_takes c.args.body.now c.in-Ok.parts (λ i. omega (arith, c.type_inv.body i)) c.in-Ok.ensures)
