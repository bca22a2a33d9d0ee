use Rattle.std.proofs.Common.{refl}
use Rattle.sql_tree.specs.Grammar as grammar
use Rattle.sql_reading.proofs.Chosen.{asc_read, desc_read, unsaid_read}
use Rattle.sql_reading.proofs.items.read_direction.Goals as goal

pub returns-then-eat_word : goal.returns-then-eat_word
returns-then-eat_word c = (grammar.ascending, refl, asc_read _ _ c.if-eat_word.ensures.0 c.if-eat_word.ensures.1)

pub returns-then-eat_word-2 : goal.returns-then-eat_word-2
returns-then-eat_word-2 c =
    (grammar.descending, refl, desc_read _ _ _ c.if-eat_word.ensures.0 c.if-eat_word.ensures.1 c.if-eat_word-2.ensures.0 c.if-eat_word-2.ensures.1)

pub returns : goal.returns
returns c = (grammar.unsaid, refl, unsaid_read _ _ _ c.if-eat_word.ensures.0 c.if-eat_word.ensures.1 c.if-eat_word-2.ensures.0 c.if-eat_word-2.ensures.1)
