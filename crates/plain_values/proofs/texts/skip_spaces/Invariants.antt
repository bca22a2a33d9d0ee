use Rattle.std.proofs.Common.{◌≡◌, length}
use Rattle.plain_values.specs.Values.{skip_spaces}
use Rattle.plain_values.proofs.texts.skip_spaces.Given as goal

abbrev pub invariant-each : goal.invariant-each
invariant-each l = skip_spaces l.text ≡ skip_spaces l.rest

abbrev pub decreases-each : goal.decreases-each
decreases-each l = length l.rest
