use Rattle.std.proofs.Common.{length}
use Rattle.sql_tree.specs.Grammar.{key_tree}
use Rattle.sql_readers.specs.Productions.{key}
use Rattle.sql_reading.proofs.Lists.{Listing}
use Rattle.sql_reading.proofs.items.read_key_list.Given as goal

abbrev pub invariant-more : goal.invariant-more
invariant-more l = Listing key_tree key l.initial.cursor l.initial.keys l.keys l.cursor

abbrev pub decreases-more : goal.decreases-more
decreases-more l = length l.cursor
