use Rattle.std.proofs.Common.{ap, ◌∙◌, sym}
use Rattle.sql_patterns.specs.Fingerprints.{mix, mix_each, mix_cond}
use Rattle.sql_patterns.proofs.Mixed.{mix-And, mix-Or}
use Rattle.sql_patterns.proofs.mixing.+mixing.Goals as goal

pub mix_cond-returns-in-And : goal.mix_cond-returns-in-And
mix_cond-returns-in-And t c =
    c.mix_conds.ensures ∙ (λ i. mix_each mix_cond (c.as_slice.ensures i) (c.mix-in-And.ensures i)) ∙ (λ i. mix_each mix_cond c.in-And.parts (mix (c.len.ensures i) (c.mix.ensures i)))
    ∙ sym (mix-And c.in-And.parts c.args.hash) ∙ ap (λ x. mix_cond x c.args.hash) (sym c.in-And.is)

pub mix_cond-returns-in-Or : goal.mix_cond-returns-in-Or
mix_cond-returns-in-Or t c =
    c.mix_conds-in-Or.ensures ∙ (λ i. mix_each mix_cond (c.as_slice-in-Or.ensures i) (c.mix-in-Or-2.ensures i))
    ∙ (λ i. mix_each mix_cond c.in-Or.parts (mix (c.len-in-Or.ensures i) (c.mix-in-Or.ensures i))) ∙ sym (mix-Or c.in-Or.parts c.args.hash) ∙ ap (λ x. mix_cond x c.args.hash) (sym c.in-Or.is)
