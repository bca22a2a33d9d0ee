use Rattle.ring_file.proofs.Faults.{ring_whole, whole_spelled, whole_no_fault}
use Rattle.ring_file.proofs.laws.whole_bodies.Goals as goal

pub returns-clause-whole : goal.returns-clause-whole
returns-clause-whole c = ring_whole

pub returns-clause-only : goal.returns-clause-only
returns-clause-only c = whole_spelled

pub returns-clause-sound : goal.returns-clause-sound
returns-clause-sound c = whole_no_fault
