use Rattle.std.proofs.Common.{Ok, ap}
use Rattle.audit_chain.proofs.Walking.{walks_on, bad_line}
use Rattle.audit_chain.proofs.walk.Walk.end_line.Goals as goal

pub returns-in-Ok-true-clause-walks : goal.returns-in-Ok-true-clause-walks
returns-in-Ok-true-clause-walks c key bytes at =
    let f = c.in-Ok-true.ensures.yes (ap Ok c.in-Ok-true.field-0-test) in
    walks_on key bytes c.args.self.now _ f.0 c.deref.result.now at c.deref.ensures.value f.1 f.2 c.clear.ensures.items

pub returns-in-Ok-false-clause-walks : goal.returns-in-Ok-false-clause-walks
returns-in-Ok-false-clause-walks c key bytes at =
    bad_line key bytes c.args.self.now c.deref.result.now c.next_number-line.result at c.deref.ensures.value c.next_number-line.ensures (c.in-Ok-false.ensures.no (ap Ok c.in-Ok-false.field-0-test))
