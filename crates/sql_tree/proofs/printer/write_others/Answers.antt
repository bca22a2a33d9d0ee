use Rattle.std.proofs.Common.{◌∷◌}
use Rattle.sql_tokens.specs.declared.token.Token.TheVariants as t
use Rattle.sql_tokens.specs.declared.sign.Sign.TheVariants as sign
use Rattle.sql_tree.proofs.Rendering.{next, said}
use Rattle.sql_tree.proofs.Joining.{others_more}
use Rattle.sql_tree.proofs.printer.write_others.Goals as goal

pub parts-preserved : goal.parts-preserved
parts-preserved g c = said _ (others_more (λ part. t.Sign sign.Comma ∷ g.T.Canonical.tokens part) c.args.parts.now c.parts.part-index c.part-item.result c.parts-test.true c.part-item.is) (next c.parts.invariant (next c.in_ok-sign.ensures c.in_ok-write.ensures))
