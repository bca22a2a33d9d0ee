use Rattle.sql_tokens.specs.declared.token.Token.TheVariants as t
use Rattle.sql_tokens.specs.declared.sign.Sign.TheVariants as sign
use Rattle.sql_tree.proofs.Rendering.{next, said}
use Rattle.sql_tree.proofs.Joining.{joined_first}
use Rattle.sql_tree.proofs.printer.write_commas.Goals as goal

pub returns : goal.returns
returns g c = said _ (joined_first (t.Sign sign.Comma) g.T.Canonical.tokens c.args.parts.now c.first-item.result c.in-len1-up.len_at_least c.first-item.is) (next c.in_ok-write.ensures c.in_ok-write_others.ensures)
