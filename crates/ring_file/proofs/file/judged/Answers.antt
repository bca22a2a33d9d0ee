use Rattle.std.proofs.Common.{subst, sym}
use Rattle.ring_file.specs.Fields.{IsFaultPlace}
use Rattle.ring_file.proofs.Faults.{fault_place, read_whole}
use Rattle.ring_file.proofs.file.judged.Goals as goal

pub returns-in-Ok-clause-place : goal.returns-in-Ok-clause-place
returns-in-Ok-clause-place c = read_whole c.args.body.now c.in-Ok.ring c.in-Ok.ensures.read

pub returns-in-Err-At-clause-place : goal.returns-in-Err-At-clause-place
returns-in-Err-At-clause-place c = subst (IsFaultPlace c.args.body.now) (sym c.saturating_sub.ensures) (fault_place c.args.body.now c.in-Err-At.left (rw c.in-Err-At.field-0-is at c.in-Err-At.ensures.read))
