use Rattle.pg_wire.proofs.FaultPlaces.{one_place}
use Rattle.pg_wire.proofs.FrontPlaces.{front_joined, front_place}
use Rattle.pg_wire.proofs.laws.front_places.Goals as goal

pub returns-clause-fields : goal.returns-clause-fields
returns-clause-fields c = front_joined

pub returns-clause-place : goal.returns-clause-place
returns-clause-place c = λ kind body left fits e. front_place kind body left fits e

pub returns-clause-one : goal.returns-clause-one
returns-clause-one c = one_place
