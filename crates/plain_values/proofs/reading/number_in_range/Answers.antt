use Rattle.std.proofs.Common.{ap}
use mir.Syntax.{w64}
use Rattle.std.proofs.lemmas.Int.{to_z-of_z}
use Rattle.plain_values.proofs.Spelled.{fitting_means}
use Rattle.plain_values.proofs.reading.number_in_range.Goals as goal

pub returns-clause-means : goal.returns-clause-means
returns-clause-means c = rw (to_z-of_z w64 c.args.number c.ranges.number) (fitting_means c.args.number c.ranges.number)
