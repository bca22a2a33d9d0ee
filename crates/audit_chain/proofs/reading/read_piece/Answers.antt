use Rattle.std.proofs.Common.{arith, rules}
use Rattle.audit_chain.proofs.Pieces.{stops_in_piece}
use Rattle.audit_chain.proofs.reading.read_piece.Goals as goal

pub returns-in-Err-take_front-clause-reads : goal.returns-in-Err-take_front-clause-reads
returns-in-Err-take_front-clause-reads g c key bytes at =
    stops_in_piece key bytes (g.S.Source.left c.args.source.now) (g.S.Source.left c.read.new.self) c.read.new.buf _ c.in-Ok.count c.args.room c.in-Err-take_front.stop c.in-Ok.ensures.bytes.0 c.in-Ok.ensures.bound
    (first_of (search rules, grind arith))
    (c.in-Err-take_front.ensures.walks key bytes at)
