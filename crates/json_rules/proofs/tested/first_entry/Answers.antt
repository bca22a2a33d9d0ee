use Rattle.std.proofs.Common.{below_more, sym, ◌∙◌, arith}
use Rattle.json_rules.proofs.Sought.{no_more}
use Rattle.json_rules.proofs.tested.first_entry.Goals as goal

pub each-preserved : goal.each-preserved
each-preserved g c = below_more _ _ c.each.invariant (sym c.entry_breaks.ensures ∙ c.if-entry_breaks.false)

pub returns-then-entry_breaks : goal.returns-then-entry_breaks
returns-then-entry_breaks g c = (sym c.entry_breaks.ensures ∙ c.if-entry_breaks.true, c.each.invariant)

pub returns : goal.returns
returns g c = no_more _ c.each.entry c.each.invariant (λ i past. g.met.S.Tested.no_entry _ _ _ i c.requires (omega arith))
