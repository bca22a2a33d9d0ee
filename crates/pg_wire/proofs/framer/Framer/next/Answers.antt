use Rattle.std.proofs.Common.{refl, ap}
use Rattle.pg_wire.specs.Streams.{Stream}
use Rattle.pg_wire.proofs.Framed.{gives_held}
use Rattle.pg_wire.proofs.framer.Framer.next.Goals as goal

pub returns-in_ok-copied-in-Whole : goal.returns-in_ok-copied-in-Whole
returns-in_ok-copied-in-Whole c =
    let f = c.self.inside in
    let h = c.in-Whole.ensures in
    let s : Stream = c.args.self.now in
    gives_held s f.who f.limit f.opening f.offset _ c.self.view_is c.left-left.result.now c.left-left.ensures c.in-Whole.kind c.in-Whole.body.now c.in-Whole.rest.now h.0 h.1
    f.offset c.in_ok-copied-in-Whole.field-0 c.still_opening-opening.result c.advance.new.self (ap (λ (u : Stream). u.offset) c.self.view_is) c.in_ok-copied-in-Whole.ensures c.still_opening-opening.ensures c.advance.ensures
