use Rattle.std.proofs.Common.{◌≡◌, ◌∷◌, ◌++◌, length}
use Rattle.sql_tokens.specs.Tokens.{doubled}
use Rattle.sql_tokens.proofs.cursor.Cursor.quoted.Given as goal

abbrev pub invariant-pieces : goal.invariant-pieces
invariant-pieces l = l.fn.self ≡ l.fn.quote ∷ (doubled l.fn.quote l.content.items ++ l.self)

abbrev pub decreases-pieces : goal.decreases-pieces
decreases-pieces l = length l.self
