use Rattle.std.proofs.Common.{◌≡◌, drop, length}
use Rattle.sql_patterns.specs.Fingerprints.{mix, mix_each}
use Rattle.sql_patterns.proofs.mixing.mix_bytes.Given as goal

abbrev pub invariant-each : goal.invariant-each
invariant-each l = mix_each mix l.bytes (mix (length l.bytes) l.fn.hash) ≡ mix_each mix (drop l.byte-index l.bytes) l.hash
