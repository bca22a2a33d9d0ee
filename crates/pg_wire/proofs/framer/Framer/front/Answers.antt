use Rattle.std.proofs.Common.{refl, ap}
use Rattle.pg_wire.specs.Streams.{Stream}
use Rattle.pg_wire.proofs.Framed.{sees_held}
use Rattle.pg_wire.proofs.framer.Framer.front.Goals as goal

pub returns-in-Whole : goal.returns-in-Whole
returns-in-Whole c =
    let f = c.self.inside in
    let h = c.in-Whole.ensures in
    let s : Stream = c.args.self.now in
    sees_held s f.who f.limit f.opening f.offset _ c.self.view_is c.left-left.result.now c.left-left.ensures c.in-Whole.kind c.in-Whole.body.now c.in-Whole.rest.now h.0 h.1
    f.offset _ (ap (λ (u : Stream). u.offset) c.self.view_is) refl refl refl refl
