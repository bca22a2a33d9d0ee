use Rattle.std.proofs.Common.{◌∙◌, sym, ap, add-one}
use Rattle.sql_tree.specs.declared.condition.Cond.TheVariants as tree
use Rattle.sql_reading.proofs.Held.{nots_more}
use Rattle.sql_reading.proofs.conditions.with_nots.Goals as goal

pub loop-preserved : goal.loop-preserved
loop-preserved c = rw add-one (ap tree.Not (c.in_ok-new.ensures ∙ c.loop.invariant) ∙ sym (nots_more c.loop.counter c.args.part))
