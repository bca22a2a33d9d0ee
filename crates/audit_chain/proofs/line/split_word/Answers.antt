use Rattle.std.proofs.Common.{length, ◌∙◌}
use Rattle.audit_chain.proofs.Splitting.{position-word, cut_at, not_found}
use Rattle.audit_chain.proofs.line.split_word.Goals as goal

pub returns-in-None : goal.returns-in-None
returns-in-None c word rest all e = not_found (length word) (c.in-None.ensures ∙ position-word c.args.text.now word rest all e)

pub returns-in-Some : goal.returns-in-Some
returns-in-Some c word rest all e = cut_at c.in-Some.at c.args.text.now word rest c.in-Some.ensures all e
