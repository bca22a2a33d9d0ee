use Rattle.std.proofs.Common.{List, ◌≤◌, length, reverse}
use Rattle.sql_tokens.specs.declared.token.Token.{Token}
use Rattle.sql_reading.specs.Levels.{Behind}
use Rattle.sql_reading.proofs.conditions.settle.Given as goal

abbrev pub invariant-levels : goal.invariant-levels
invariant-levels l = record {
  shorter : length l.cursor ≤ length l.fn.cursor;
  behind : (whole : List Token) → Behind whole (reverse l.fn.outer) l.fn.level l.fn.depth l.fn.part l.fn.cursor → Behind whole (reverse l.outer) l.level l.depth l.part l.cursor;
}

abbrev pub decreases-levels : goal.decreases-levels
decreases-levels l = length l.outer
