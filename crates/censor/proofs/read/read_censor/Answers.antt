use Rattle.std.proofs.Common.{sym, subst}
use Rattle.censor.specs.Reads.{IsFault}
use Rattle.censor.proofs.Bounds.{fits, all_sizes, is_refusal}
use Rattle.censor.proofs.read.read_censor.Goals as goal

pub refusal-requires-in-Some-first_broken : goal.refusal-requires-in-Some-first_broken
refusal-requires-in-Some-first_broken c = fits c.as_slice.result.now c.in-Some-first_broken.broken.rule c.in-Some-first_broken.broken.place c.in-Some-first_broken.ensures

pub invariant_of-result : goal.invariant_of-result
invariant_of-result c = record { sizes = all_sizes c.args.text.now c.in-Some.handlers c.as_slice.result.now (rw c.in-Some.is at c.in_ok-handlers.ensures) c.as_slice.ensures c.in-None.ensures }

pub returns-in-Some-first_broken-clause-refused : goal.returns-in-Some-first_broken-clause-refused
returns-in-Some-first_broken-clause-refused c =
    subst (IsFault c.args.text.now) (sym c.refusal-in-Some-first_broken.ensures)
    (is_refusal c.args.text.now c.in-Some.handlers c.as_slice.result.now (rw c.in-Some.is at c.in_ok-handlers.ensures) c.as_slice.ensures c.in-Some-first_broken.broken.rule c.in-Some-first_broken.broken.place
    c.in-Some-first_broken.ensures)
