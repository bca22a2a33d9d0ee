use Rattle.std.proofs.Common.{map, drop, []}
use Rattle.serde_json.specs.View.{view}
use Rattle.censor.specs.Settings.{IsHandler}
use Rattle.censor.proofs.Listed.{Continues}
use Rattle.censor.proofs.settings.handlers_of.Given as goal

abbrev pub invariant-each : goal.invariant-each
invariant-each l = Continues IsHandler (map view l.items) [] l.handlers.items (map view (drop l.item-index l.items))
