use Rattle.std.proofs.Common.{length, reverse}
use Rattle.sql_reading.specs.Levels.{Before}
use Rattle.sql_reading.proofs.conditions.read_cond.Given as goal

abbrev pub invariant-parts : goal.invariant-parts
invariant-parts l = Before l.fn.cursor (reverse l.outer) l.level l.depth l.cursor

abbrev pub decreases-parts : goal.decreases-parts
decreases-parts l = length l.cursor
