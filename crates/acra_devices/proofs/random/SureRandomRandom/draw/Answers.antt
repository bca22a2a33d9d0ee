use Rattle.std.proofs.Common.{length}
use Rattle.acra_devices.proofs.Draws.{told_draw}
use Rattle.acra_devices.proofs.random.SureRandomRandom.draw.Goals as goal

pub returns-clause-bytes : goal.returns-clause-bytes
returns-clause-bytes c = told_draw (length c.args.out.now) _ _ _ c.fill.auto.out c.fill.ensures
