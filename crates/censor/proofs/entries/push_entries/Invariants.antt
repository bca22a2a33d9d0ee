use Rattle.std.proofs.Common.{map, drop}
use Rattle.serde_json.specs.View.{view}
use Rattle.censor.specs.Settings.{IsEntry}
use Rattle.censor.proofs.Listed.{Continues}
use Rattle.censor.proofs.entries.push_entries.Given as goal

abbrev pub invariant-each : goal.invariant-each
invariant-each l = Continues (IsEntry l.of) (map view l.items) l.fn.entries.items l.entries.items (map view (drop l.item-index l.items))
