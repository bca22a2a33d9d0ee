use Rattle.std.proofs.Common.{length}
use Rattle.sql_tree.specs.Grammar.{item_tree}
use Rattle.sql_readers.specs.Productions.{item}
use Rattle.sql_reading.proofs.Lists.{Listing}
use Rattle.sql_reading.proofs.items.read_columns.Given as goal

abbrev pub invariant-more : goal.invariant-more
invariant-more l = Listing item_tree item l.initial.cursor l.initial.items l.items l.cursor

abbrev pub decreases-more : goal.decreases-more
decreases-more l = length l.cursor
