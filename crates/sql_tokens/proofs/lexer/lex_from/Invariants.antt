use Rattle.std.proofs.Common.{length}
use Rattle.sql_tokens.proofs.Whole.{SoFar}
use Rattle.sql_tokens.proofs.lexer.lex_from.Given as goal

abbrev pub invariant-pieces : goal.invariant-pieces
invariant-pieces l = SoFar l.text l.from l.fn.tokens l.tokens l.cursor

abbrev pub decreases-pieces : goal.decreases-pieces
decreases-pieces l = length l.cursor
