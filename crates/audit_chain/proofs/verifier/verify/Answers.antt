use Rattle.audit_chain.proofs.Telling.{valid_found, broken_found, long_found, spent_found, where_due}
use Rattle.audit_chain.proofs.verifier.verify.Goals as goal

pub returns-in-Ok-clause-found : goal.returns-in-Ok-clause-found
returns-in-Ok-clause-found g c = valid_found c.args.key.now _ _ _ c.number.result c.is_ended.result c.in-Ok.ensures.ends c.number.ensures c.is_ended.ensures

pub returns-in-Ok-clause-exact : goal.returns-in-Ok-clause-exact
returns-in-Ok-clause-exact g c =
    where_due c.args.key.now _ _ _ (valid_found c.args.key.now _ _ _ c.number.result c.is_ended.result c.in-Ok.ensures.ends c.number.ensures c.is_ended.ensures)

pub returns-in-Err-Broken-clause-found : goal.returns-in-Err-Broken-clause-found
returns-in-Err-Broken-clause-found g c = broken_found c.args.key.now _ _ c.in-Err-Broken.line (rw c.in-Err-Broken.field-0-is at c.in-Err-Broken.ensures.ends)

pub returns-in-Err-Broken-clause-exact : goal.returns-in-Err-Broken-clause-exact
returns-in-Err-Broken-clause-exact g c = where_due c.args.key.now _ _ _ (broken_found c.args.key.now _ _ c.in-Err-Broken.line (rw c.in-Err-Broken.field-0-is at c.in-Err-Broken.ensures.ends))

pub returns-in-Err-LineTooLong-clause-found : goal.returns-in-Err-LineTooLong-clause-found
returns-in-Err-LineTooLong-clause-found g c = long_found c.args.key.now _ _ c.in-Err-LineTooLong.line (rw c.in-Err-LineTooLong.field-0-is at c.in-Err-LineTooLong.ensures.ends)

pub returns-in-Err-LineTooLong-clause-exact : goal.returns-in-Err-LineTooLong-clause-exact
returns-in-Err-LineTooLong-clause-exact g c = where_due c.args.key.now _ _ _ (long_found c.args.key.now _ _ c.in-Err-LineTooLong.line (rw c.in-Err-LineTooLong.field-0-is at c.in-Err-LineTooLong.ensures.ends))

pub returns-in-Err-Spent-clause-found : goal.returns-in-Err-Spent-clause-found
returns-in-Err-Spent-clause-found g c = spent_found c.args.key.now _ _ (rw c.in-Err-Spent.field-0-is at c.in-Err-Spent.ensures.ends)

pub returns-in-Err-Spent-clause-exact : goal.returns-in-Err-Spent-clause-exact
returns-in-Err-Spent-clause-exact g c = where_due c.args.key.now _ _ _ (spent_found c.args.key.now _ _ (rw c.in-Err-Spent.field-0-is at c.in-Err-Spent.ensures.ends))
