use Rattle.audit_chain.proofs.Walking.{stops_along}
use Rattle.audit_chain.proofs.walk.Walk.take_all.Goals as goal

pub returns-in-Err-clause-walks : goal.returns-in-Err-clause-walks
returns-in-Err-clause-walks c key bytes at =
    stops_along key bytes c.args.piece.now c.bytes.byte-index c.in-Err.stop c.bytes-test.true (c.in-Err.ensures.walks key _ (c.bytes.invariant key bytes at))
