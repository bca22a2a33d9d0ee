use Rattle.std.proofs.Common.{arith}
use Rattle.audit_chain.proofs.Walking.{too_long}
use Rattle.audit_chain.proofs.walk.Walk.take.Goals as goal

pub returns-then-len-ge-LINE_LIMIT-clause-walks : goal.returns-then-len-ge-LINE_LIMIT-clause-walks
returns-then-len-ge-LINE_LIMIT-clause-walks c key bytes at =
    too_long key bytes c.args.self.now c.args.byte c.next_number-line.result at c.if-byte-eq10.false (omega (arith, c.if-len-ge-LINE_LIMIT.true, c.len.ensures)) c.next_number-line.ensures
