use Rattle.std.proofs.Common.{◌∙◌, sym}
use Rattle.audit_chain.proofs.Goings.{goes_on_from, closed_found, broken_before, long_before, spent_before, where_due_to}
use Rattle.audit_chain.proofs.chain.Chain.resume.Goals as goal

pub returns-then-is_ended-clause-found : goal.returns-then-is_ended-clause-found
returns-then-is_ended-clause-found g c = closed_found c.args.key.now _ _ c.in-Ok.chain c.in-Ok.ensures.ends (sym c.is_ended.ensures ∙ c.if-is_ended.true)

pub returns-then-is_ended-clause-exact : goal.returns-then-is_ended-clause-exact
returns-then-is_ended-clause-exact g c = where_due_to c.args.key.now _ _ _ (closed_found c.args.key.now _ _ c.in-Ok.chain c.in-Ok.ensures.ends (sym c.is_ended.ensures ∙ c.if-is_ended.true))

pub returns-else-is_ended-clause-found : goal.returns-else-is_ended-clause-found
returns-else-is_ended-clause-found g c = goes_on_from c.args.key.now _ _ c.in-Ok.chain c.in-Ok.ensures.ends (sym c.is_ended.ensures ∙ c.if-is_ended.false)

pub returns-else-is_ended-clause-exact : goal.returns-else-is_ended-clause-exact
returns-else-is_ended-clause-exact g c = where_due_to c.args.key.now _ _ _ (goes_on_from c.args.key.now _ _ c.in-Ok.chain c.in-Ok.ensures.ends (sym c.is_ended.ensures ∙ c.if-is_ended.false))

pub returns-in-Err-Broken-clause-found : goal.returns-in-Err-Broken-clause-found
returns-in-Err-Broken-clause-found g c = broken_before c.args.key.now _ _ c.in-Err-Broken.line (rw c.in-Err-Broken.field-0-is at c.in-Err-Broken.ensures.ends)

pub returns-in-Err-Broken-clause-exact : goal.returns-in-Err-Broken-clause-exact
returns-in-Err-Broken-clause-exact g c = where_due_to c.args.key.now _ _ _ (broken_before c.args.key.now _ _ c.in-Err-Broken.line (rw c.in-Err-Broken.field-0-is at c.in-Err-Broken.ensures.ends))

pub returns-in-Err-LineTooLong-clause-found : goal.returns-in-Err-LineTooLong-clause-found
returns-in-Err-LineTooLong-clause-found g c = long_before c.args.key.now _ _ c.in-Err-LineTooLong.line (rw c.in-Err-LineTooLong.field-0-is at c.in-Err-LineTooLong.ensures.ends)

pub returns-in-Err-LineTooLong-clause-exact : goal.returns-in-Err-LineTooLong-clause-exact
returns-in-Err-LineTooLong-clause-exact g c = where_due_to c.args.key.now _ _ _ (long_before c.args.key.now _ _ c.in-Err-LineTooLong.line (rw c.in-Err-LineTooLong.field-0-is at c.in-Err-LineTooLong.ensures.ends))

pub returns-in-Err-Spent-clause-found : goal.returns-in-Err-Spent-clause-found
returns-in-Err-Spent-clause-found g c = spent_before c.args.key.now _ _ (rw c.in-Err-Spent.field-0-is at c.in-Err-Spent.ensures.ends)

pub returns-in-Err-Spent-clause-exact : goal.returns-in-Err-Spent-clause-exact
returns-in-Err-Spent-clause-exact g c = where_due_to c.args.key.now _ _ _ (spent_before c.args.key.now _ _ (rw c.in-Err-Spent.field-0-is at c.in-Err-Spent.ensures.ends))
