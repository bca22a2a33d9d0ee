use Rattle.ring_file.proofs.Faults.{fault_place, one_place}
use Rattle.ring_file.proofs.laws.fault_places.Goals as goal

pub returns-clause-place : goal.returns-clause-place
returns-clause-place c = fault_place

pub returns-clause-one : goal.returns-clause-one
returns-clause-one c = one_place
