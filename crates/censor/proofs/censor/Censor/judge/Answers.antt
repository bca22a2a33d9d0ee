use Rattle.std.proofs.Common.{sym, subst, ◌∙◌, ap, List}
use Rattle.censor.specs.declared.handler.Handler.{Handler}
use Rattle.censor.specs.declared.verdict.Verdict.TheVariants as verdict
use Rattle.censor.specs.Verdicts as verdicts
use Rattle.censor.specs.Verdicts.{DecidesNot, IsVerdict, NamesPart}
use Rattle.censor.proofs.Named.{below_next, by_handler, by_none, named}
use Rattle.censor.proofs.censor.Censor.judge.Goals as goal

pub returns-in-Some-clause-verdict : goal.returns-in-Some-clause-verdict
returns-in-Some-clause-verdict c =
    let s = c.args.statement.now in
    let hs = c.as_slice-handlers.result.now in
    let h = c.index-handlers-index.result in
    let some = sym c.is_empty.ensures ∙ c.if-is_empty.false in
    let judged = by_handler s hs some c.each.index h c.in-Some.part c.each-test.true c.index-handlers-index.is c.each.invariant c.in-Some.ensures in
    let told = c.verdict_of.ensures ∙ ap (λ b. verdicts.verdict_of b c.each.index c.in-Some.part) c.denies.ensures in
    subst (λ (xs : List Handler). IsVerdict s xs c.verdict_of.result) c.as_slice-handlers.ensures (subst (IsVerdict s hs) (sym told) judged)

pub returns-in-Some-clause-stands : goal.returns-in-Some-clause-stands
returns-in-Some-clause-stands c =
    let s = c.args.statement.now in
    let hs = c.as_slice-handlers.result.now in
    let h = c.index-handlers-index.result in
    let named_one = named s hs c.each.index h c.in-Some.part c.each-test.true c.index-handlers-index.is c.in-Some.ensures in
    let told = c.verdict_of.ensures ∙ ap (λ b. verdicts.verdict_of b c.each.index c.in-Some.part) c.denies.ensures in
    subst (λ (xs : List Handler). NamesPart xs c.verdict_of.result) c.as_slice-handlers.ensures (subst (NamesPart hs) (sym told) named_one)

pub each-preserved : goal.each-preserved
each-preserved c =
    below_next (DecidesNot c.args.statement.now) c.as_slice-handlers.result.now c.each.index c.index-handlers-index.result c.each-test.true c.index-handlers-index.is c.each.invariant c.in_default.ensures

pub returns-clause-verdict : goal.returns-clause-verdict
returns-clause-verdict c =
    let s = c.args.statement.now in
    let some = sym c.is_empty.ensures ∙ c.if-is_empty.false in
    subst (λ (xs : List Handler). IsVerdict s xs verdict.Allowed) c.as_slice-handlers.ensures (by_none s c.as_slice-handlers.result.now some c.each.index c.each-test.false c.each.invariant)
