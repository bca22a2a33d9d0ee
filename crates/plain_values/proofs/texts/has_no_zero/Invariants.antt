use Rattle.std.proofs.Common.{◌≡◌, drop, not, ◌==◌}
use Rattle.std.specs.List.{list_all}
use Rattle.plain_values.proofs.texts.has_no_zero.Given as goal

abbrev pub invariant-each : goal.invariant-each
invariant-each l = list_all (λ b. not (b == 0)) l.text ≡ list_all (λ b. not (b == 0)) (drop l.byte-index l.text)
