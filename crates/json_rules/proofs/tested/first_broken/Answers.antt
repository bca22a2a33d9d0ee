use Rattle.std.proofs.Common.{arith}
use Rattle.json_rules.proofs.Sought.{one_more}
use Rattle.json_rules.proofs.tested.first_broken.Goals as goal

pub each-init : goal.each-init
each-init g c = λ r q low high. absurd (omega arith)

pub each-preserved : goal.each-preserved
each-preserved g c = one_more _ _ _ c.each.invariant c.in_default.ensures

pub returns-in-Some : goal.returns-in-Some
returns-in-Some g c = record { low = omega arith; high = omega arith; here = c.in-Some.ensures; least = c.each.invariant }

pub returns : goal.returns
returns g c = λ r q low high. c.each.invariant r q low (omega arith)
