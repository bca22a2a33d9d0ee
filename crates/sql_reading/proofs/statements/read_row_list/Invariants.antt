use Rattle.std.proofs.Common.{length}
use Rattle.sql_reading.specs.Made.{row_of}
use Rattle.sql_readers.specs.Productions.{values}
use Rattle.sql_reading.proofs.Lists.{Listing}
use Rattle.sql_reading.proofs.statements.read_row_list.Given as goal

abbrev pub invariant-more : goal.invariant-more
invariant-more l = Listing row_of values l.initial.cursor l.initial.rows l.rows l.cursor

abbrev pub decreases-more : goal.decreases-more
decreases-more l = length l.cursor
