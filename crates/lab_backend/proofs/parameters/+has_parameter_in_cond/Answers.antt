use Rattle.lab_backend.proofs.HasParameter.{found_in_and, found_in_or}
use Rattle.lab_backend.proofs.parameters.+has_parameter_in_cond.Goals as goal

pub returns-after-ands : goal.returns-after-ands
returns-after-ands t c = found_in_and c.args.cond.now c.as_slice-part-items.result.now c.in-And.parts c.ands.part-index c.ands.any c.in-And.is c.as_slice-part-items.ensures c.ands-test.false c.ands.invariant

pub returns-after-ors : goal.returns-after-ors
returns-after-ors t c =
    found_in_or c.args.cond.now c.as_slice-part-items-in-Or.result.now c.in-Or.parts c.ors.part-index c.ors.any c.in-Or.is c.as_slice-part-items-in-Or.ensures c.ors-test.false c.ors.invariant
