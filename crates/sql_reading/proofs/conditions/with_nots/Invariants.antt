use Rattle.std.proofs.Common.{◌≡◌}
use Rattle.sql_reading.specs.Levels.{nots_of}
use Rattle.sql_reading.proofs.conditions.with_nots.Given as goal

abbrev pub invariant-loop : goal.invariant-loop
invariant-loop l = l.whole ≡ nots_of l.counter l.fn.part
