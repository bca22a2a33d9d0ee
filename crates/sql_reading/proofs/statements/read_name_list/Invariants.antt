use Rattle.std.proofs.Common.{length}
use Rattle.sql_tree.specs.Parts.{Spelled}
use Rattle.sql_readers.specs.Productions.{name}
use Rattle.sql_reading.proofs.Lists.{Listing}
use Rattle.sql_reading.proofs.statements.read_name_list.Given as goal

abbrev pub invariant-more : goal.invariant-more
invariant-more l = Listing (λ (n : Spelled). n.name) name l.initial.cursor l.initial.names l.names l.cursor

abbrev pub decreases-more : goal.decreases-more
decreases-more l = length l.cursor
