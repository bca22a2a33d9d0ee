use Rattle.std.proofs.Common.{◌≡◌, drop}
use Rattle.sql_patterns.specs.Fingerprints.{mix_cond, mix_each}
use Rattle.sql_patterns.proofs.mixing.+mixing.Given as goal

abbrev pub invariant-mix_conds-each : goal.invariant-mix_conds-each
invariant-mix_conds-each l = mix_each mix_cond l.conds l.fn.hash ≡ mix_each mix_cond (drop l.cond-index l.conds) l.hash
