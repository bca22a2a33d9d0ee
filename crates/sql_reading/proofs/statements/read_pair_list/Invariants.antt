use Rattle.std.proofs.Common.{length}
use Rattle.sql_tree.specs.Grammar.{pair_tree}
use Rattle.sql_readers.specs.Productions.{pair}
use Rattle.sql_reading.proofs.Lists.{Listing}
use Rattle.sql_reading.proofs.statements.read_pair_list.Given as goal

abbrev pub invariant-more : goal.invariant-more
invariant-more l = Listing pair_tree pair l.initial.cursor l.initial.pairs l.pairs l.cursor

abbrev pub decreases-more : goal.decreases-more
decreases-more l = length l.cursor
