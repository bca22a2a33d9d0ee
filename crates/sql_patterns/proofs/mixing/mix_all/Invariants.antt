use Rattle.std.proofs.Common.{◌≡◌, drop, length}
use Rattle.sql_patterns.specs.Fingerprints.{mix, mix_each}
use Rattle.sql_patterns.proofs.mixing.mix_all.Given as goal

abbrev pub invariant-each : goal.invariant-each
invariant-each g l = mix_each g.T.Mixed.mixed l.parts (mix (length l.parts) l.fn.hash) ≡ mix_each g.T.Mixed.mixed (drop l.part-index l.parts) l.hash
