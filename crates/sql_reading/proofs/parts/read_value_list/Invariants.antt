use Rattle.std.proofs.Common.{length}
use Rattle.sql_tree.specs.Parts.{value_operand}
use Rattle.sql_readers.specs.Productions.{value}
use Rattle.sql_reading.proofs.Lists.{Listing}
use Rattle.sql_reading.proofs.parts.read_value_list.Given as goal

abbrev pub invariant-more : goal.invariant-more
invariant-more l = Listing value_operand value l.initial.cursor l.initial.values l.values l.cursor

abbrev pub decreases-more : goal.decreases-more
decreases-more l = length l.cursor
