use Rattle.std.proofs.Common.{◌≡◌, drop, ◌==◌}
use Rattle.std.specs.List.{list_any}
use Rattle.plain_values.proofs.texts.has_backslash.Given as goal

abbrev pub invariant-each : goal.invariant-each
invariant-each l = list_any (λ b. b == 92) l.text ≡ list_any (λ b. b == 92) (drop l.byte-index l.text)
