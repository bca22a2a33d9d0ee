use Rattle.std.proofs.Common.{sym, ◌∙◌, arith, below_more}
use Rattle.json_rules.proofs.Sought.{is_first, is_nowhere}
use Rattle.json_rules.proofs.tested.first_place.Goals as goal

pub returns-in-Some : goal.returns-in-Some
returns-in-Some g c = is_first _ c.each.part (sym c.text_breaks.ensures ∙ c.if-text_breaks.false) c.each.invariant c.in-Some.place c.in-Some.ensures

pub each-preserved : goal.each-preserved
each-preserved g c = below_more _ _ c.each.invariant c.in_default.ensures

pub returns : goal.returns
returns g c =
    is_nowhere (g.S.Tested.broken c.args.settings.now c.args.rule) c.each.part (sym c.text_breaks.ensures ∙ c.if-text_breaks.false) c.each.invariant
    (λ k past. g.met.S.Tested.no_part _ _ k (omega arith)) (λ k j past. g.met.S.Tested.no_entries _ _ k j (omega arith))
