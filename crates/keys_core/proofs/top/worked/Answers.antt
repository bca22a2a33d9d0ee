use Rattle.std.proofs.Common.{Err}
use Rattle.keys_core.specs.declared.work.Stop.TheVariants as stop
use Rattle.keys_core.proofs.Draws.{worked_drew}
use Rattle.keys_core.proofs.top.worked.Goals as goal

pub returns-in-Err-NoMemory-done_work-clause-drawn : goal.returns-in-Err-NoMemory-done_work-clause-drawn
returns-in-Err-NoMemory-done_work-clause-drawn g c =
    worked_drew c.args.ask.now c.args.key.now c.args.bytes.now c.in-Ok.opened (g.R.Random.coming c.args.random.now) (g.R.Random.coming c.open_ring.new.random) (g.R.Random.coming c.done_work.new.random) (Err stop.NoMemory)
    (rw c.makes_ring.ensures at c.in-Ok.ensures.ring) (rw c.makes_ring.ensures at c.in-Ok.ensures.drawn) (rw c.in-Err-NoMemory-done_work.field-0-is at c.in-Err-NoMemory-done_work.ensures.drawn)

pub returns-in-Ok-clause-drawn : goal.returns-in-Ok-clause-drawn
returns-in-Ok-clause-drawn g c =
    worked_drew c.args.ask.now c.args.key.now c.args.bytes.now c.in-Ok.opened (g.R.Random.coming c.args.random.now) (g.R.Random.coming c.open_ring.new.random) (g.R.Random.coming c.done_work.new.random) (Err stop.RandomFault)
    (rw c.makes_ring.ensures at c.in-Ok.ensures.ring) (rw c.makes_ring.ensures at c.in-Ok.ensures.drawn) (rw c.in-Err-RandomFault-done_work.field-0-is at c.in-Err-RandomFault-done_work.ensures.drawn)
