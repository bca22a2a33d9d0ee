use Rattle.std.proofs.Common.{refl, sym, ◌∙◌, arith}
use Rattle.std.proofs.lemmas.Bool.{false≢true}
use Rattle.sql_checks.proofs.Gapless.{numbers_of, gapless, no_zero, marks_tell}
use Rattle.sql_checks.proofs.parameters.are_gapless.Goals as goal

pub returns-then-zero : goal.returns-then-zero
returns-then-zero c = (λ h. absurd (false≢true h), λ g. absurd (no_zero (numbers_of c.args.tokens.now) (sym c.reach_of-zero.ensures.zero ∙ c.if-zero.true) g))

pub returns-then-highest-eq0 : goal.returns-then-highest-eq0
returns-then-highest-eq0 c = (
  λ _. gapless (numbers_of c.args.tokens.now) (sym c.reach_of-zero.ensures.zero ∙ c.if-zero.false) (λ k low high. absurd (omega (arith, c.reach_of-zero.ensures.highest, c.if-highest-eq0.true))),
  λ _. refl,
)

pub returns : goal.returns
returns c =
    let e = c.in_ok-marks.ensures in
    marks_tell (numbers_of c.args.tokens.now) c.from.result c.in_ok-marks.marks.items c.deref_mut.result.now c.mark_all.new.marks c.deref.result.now
    (c.from.ensures ∙ c.reach_of-zero.ensures.highest) (sym c.reach_of-zero.ensures.zero ∙ c.if-zero.false)
    (e.items_if_clones_equal (λ y same. same)) c.deref_mut.ensures.value c.mark_all.auto.marks c.mark_all.ensures
    c.in_ok-marks.marks.len e.len c.deref.ensures.value c.are_marked.result c.are_marked.ensures
