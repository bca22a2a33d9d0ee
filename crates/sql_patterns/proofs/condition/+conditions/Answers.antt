use Rattle.std.proofs.Common.{◌∙◌, sym}
use Rattle.sql_patterns.specs.Matching.{all_match, cond_matches}
use Rattle.sql_patterns.proofs.Nodes.{both-And, both-Or}
use Rattle.sql_patterns.proofs.condition.+conditions.Goals as goal

pub cond_matches-returns-in-And-cond : goal.cond_matches-returns-in-And-cond
cond_matches-returns-in-And-cond t c =
    c.all_conds_match.ensures ∙ (λ i. all_match (cond_matches c.args.holes) (c.as_slice.ensures i) (c.as_slice-in-And-cond.ensures i))
    ∙ sym (both-And c.args.holes c.in-And.tests c.in-And-cond.parts) ∙ (λ i. cond_matches c.args.holes (sym c.in-And.is i) (sym c.in-And-cond.is i))

pub cond_matches-returns-in-Or-cond : goal.cond_matches-returns-in-Or-cond
cond_matches-returns-in-Or-cond t c =
    c.all_conds_match-in-Or-cond.ensures ∙ (λ i. all_match (cond_matches c.args.holes) (c.as_slice-in-Or-cond.ensures i) (c.as_slice-in-Or-cond-2.ensures i))
    ∙ sym (both-Or c.args.holes c.in-Or.tests c.in-Or-cond.parts) ∙ (λ i. cond_matches c.args.holes (sym c.in-Or.is i) (sym c.in-Or-cond.is i))
