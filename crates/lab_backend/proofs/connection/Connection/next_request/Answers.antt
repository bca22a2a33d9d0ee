use Rattle.std.proofs.Common.{refl, true}
use Rattle.lab_backend.specs.Sessions.{NeverBegins}
use Rattle.lab_backend.proofs.Known.{over_found}
use Rattle.lab_backend.proofs.connection.Connection.next_request.Goals as goal

pub returns-in-Over : goal.returns-in-Over
returns-in-Over c =
    let never : NeverBegins c.self.inside.framer = rw c.in-Over.is at c.in_ok-request.ensures.taken in
    rw (← c.self.view_is)
    (over_found (record { stream = c.self.inside.framer; over = c.self.inside.is_over }) (record { stream = c.next_request.new.framer; over = true }) refl never)
