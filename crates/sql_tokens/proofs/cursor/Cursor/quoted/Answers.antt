use Rattle.sql_tokens.proofs.Quoting.{content_on}
use Rattle.sql_tokens.proofs.Fronts.{quoted_ends, quoted_open}
use Rattle.std.proofs.Common.{◌∙◌}
use Rattle.sql_tokens.proofs.cursor.Cursor.quoted.Goals as goal

pub returns-then-not-eat_quote-clause-none : goal.returns-then-not-eat_quote-clause-none
returns-then-not-eat_quote-clause-none c = quoted_open c.args.quote _ c.pieces.content.items c.pieces.self _ _ c.pieces.invariant c.take_run-piece.ensures.whole c.take_run-piece.ensures.all c.take_run-piece.ensures.stops c.if-not-eat_quote.ensures.1

pub returns-then-not-eat_quote-2-clause-found : goal.returns-then-not-eat_quote-2-clause-found
returns-then-not-eat_quote-2-clause-found c = quoted_ends c.args.quote _ c.pieces.content.items c.pieces.self _ _ c.pieces.invariant c.take_run-piece.ensures.whole c.take_run-piece.ensures.all c.eat_quote-in-pieces.new.self c.eat_quote-in-pieces-2.new.self c.from_vec.result c.if-not-eat_quote.ensures c.if-not-eat_quote-2.ensures (c.from_vec.ensures ∙ c.in_ok-extend_from_slice.ensures.items)

pub pieces-preserved : goal.pieces-preserved
pieces-preserved c = content_on c.args.quote _ c.pieces.content.items c.pieces.self _ _ c.pieces.invariant c.take_run-piece.ensures.whole c.take_run-piece.ensures.all _ _ c.extend_from_slice.new.self.items c.push.new.self.items c.if-not-eat_quote.ensures c.if-not-eat_quote-2.ensures c.in_ok-extend_from_slice.ensures.items c.in_ok-push.ensures.items
