use Rattle.lab_backend.proofs.Taking.{fault-never, takes, unfinished-none}
use Rattle.lab_backend.proofs.requests.next_request.Goals as goal

pub returns-in-Ok-Some-clause-taken : goal.returns-in-Ok-Some-clause-taken
returns-in-Ok-Some-clause-taken c = takes c.args.framer.now c.next.new.self c.in-Ok-Some.frame c.read_request.result c.requires (rw c.in-Ok-Some.field-0-is at c.in-Ok-Some.ensures) c.read_request.ensures

pub returns-in-Err-Frame-clause-taken : goal.returns-in-Err-Frame-clause-taken
returns-in-Err-Frame-clause-taken c =
    let gives = rw c.in-Err-Frame.field-0-is at c.in-Err-Frame.ensures in
    fault-never c.args.framer.now c.in-Err-Frame.field-0-1 c.requires gives.1

pub returns-in-Ok-None-clause-taken : goal.returns-in-Ok-None-clause-taken
returns-in-Ok-None-clause-taken c =
    let gives = rw c.in-Ok-None.field-0-is at c.in-Ok-None.ensures in
    (unfinished-none c.args.framer.now c.requires gives.0, gives.1)
