use Rattle.std.proofs.lemmas.Result.{on_ok_weaker}
use Rattle.lab_backend.proofs.Answered.{startup_replied}
use Rattle.lab_backend.proofs.answers.answer_request.Goals as goal

pub returns-in-Startup-clause-ok : goal.returns-in-Startup-clause-ok
returns-in-Startup-clause-ok c =
    rw c.in-Startup.is
    (on_ok_weaker c.write_startup.result
    (λ h. startup_replied c.args.session c.in-Startup._params c.args.tables.now c.args.out.now.items c.write_startup.new.out.items c.ranges.session.fits h)
    c.write_startup.ensures)
