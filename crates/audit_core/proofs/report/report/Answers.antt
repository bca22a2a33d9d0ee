use Rattle.audit_core.proofs.Told.{where_map}
use Rattle.audit_core.proofs.Reporting.{valid_reported, valid_due, broken_reported, broken_due, long_reported, long_due, spent_reported, spent_due}
use Rattle.audit_core.proofs.report.report.Goals as goal

pub returns-in-Ok-Valid-clause-reported : goal.returns-in-Ok-Valid-clause-reported
returns-in-Ok-Valid-clause-reported g c =
    where_map _ _ _ _ (valid_reported c.args.key.now _ _ c.in-Ok-Valid.lines c.in-Ok-Valid.closed c.closing_word.result.now c.print.result c.print.ensures.printed c.closing_word.ensures) (rw c.in-Ok-Valid.field-0-is at c.in-Ok-Valid.ensures.found)

pub returns-in-Ok-Valid-clause-exact : goal.returns-in-Ok-Valid-clause-exact
returns-in-Ok-Valid-clause-exact g c =
    where_map _ _ _ _ (valid_due c.args.key.now _ _ c.in-Ok-Valid.lines c.in-Ok-Valid.closed c.closing_word.result.now c.print.result c.print.ensures.printed) (rw c.in-Ok-Valid.field-0-is at c.in-Ok-Valid.ensures.exact)

pub returns-in-Ok-Broken-clause-reported : goal.returns-in-Ok-Broken-clause-reported
returns-in-Ok-Broken-clause-reported g c =
    where_map _ _ _ _ (broken_reported c.args.key.now _ _ c.in-Ok-Broken.line c.print-in-Ok-Broken.result c.print-in-Ok-Broken.ensures.printed) (rw c.in-Ok-Broken.field-0-is at c.in-Ok-Broken.ensures.found)

pub returns-in-Ok-Broken-clause-exact : goal.returns-in-Ok-Broken-clause-exact
returns-in-Ok-Broken-clause-exact g c =
    where_map _ _ _ _ (broken_due c.args.key.now _ _ c.in-Ok-Broken.line c.print-in-Ok-Broken.result c.print-in-Ok-Broken.ensures.printed) (rw c.in-Ok-Broken.field-0-is at c.in-Ok-Broken.ensures.exact)

pub returns-in-Err-LineTooLong-clause-reported : goal.returns-in-Err-LineTooLong-clause-reported
returns-in-Err-LineTooLong-clause-reported g c =
    where_map _ _ _ _ (long_reported c.args.key.now _ _ c.in-Err-LineTooLong.line c.print-in-Err-LineTooLong.result c.print-in-Err-LineTooLong.ensures.printed) (rw c.in-Err-LineTooLong.field-0-is at c.in-Err-LineTooLong.ensures.found)

pub returns-in-Err-LineTooLong-clause-exact : goal.returns-in-Err-LineTooLong-clause-exact
returns-in-Err-LineTooLong-clause-exact g c =
    where_map _ _ _ _ (long_due c.args.key.now _ _ c.in-Err-LineTooLong.line c.print-in-Err-LineTooLong.result c.print-in-Err-LineTooLong.ensures.printed) (rw c.in-Err-LineTooLong.field-0-is at c.in-Err-LineTooLong.ensures.exact)

pub returns-in-Err-Spent-clause-reported : goal.returns-in-Err-Spent-clause-reported
returns-in-Err-Spent-clause-reported g c = where_map _ _ _ _ (spent_reported c.args.key.now _) (rw c.in-Err-Spent.field-0-is at c.in-Err-Spent.ensures.found)

pub returns-in-Err-Spent-clause-exact : goal.returns-in-Err-Spent-clause-exact
returns-in-Err-Spent-clause-exact g c = where_map _ _ _ _ (spent_due c.args.key.now) (rw c.in-Err-Spent.field-0-is at c.in-Err-Spent.ensures.exact)
