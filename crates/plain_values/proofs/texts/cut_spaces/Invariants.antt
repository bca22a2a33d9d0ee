use Rattle.std.proofs.Common.{◌≡◌, length, reverse}
use Rattle.plain_values.specs.Values.{skip_spaces}
use Rattle.plain_values.proofs.texts.cut_spaces.Given as goal

abbrev pub invariant-each : goal.invariant-each
invariant-each l = skip_spaces (reverse l.text) ≡ skip_spaces (reverse l.rest)

abbrev pub decreases-each : goal.decreases-each
decreases-each l = length l.rest
