use Rattle.std.proofs.Common.{◌∷◌, take}
use Rattle.std.specs.List.{flat_map}
use Rattle.sql_tokens.specs.declared.token.Token.TheVariants as t
use Rattle.sql_tokens.specs.declared.sign.Sign.TheVariants as sign
use Rattle.sql_tree.specs.Writing.{Wrote}
use Rattle.sql_tree.proofs.printer.write_others.Given as goal

abbrev pub invariant-parts : goal.invariant-parts
invariant-parts g l = Wrote l.fn.writer (flat_map (λ part. t.Sign sign.Comma ∷ g.T.Canonical.tokens part) (take l.part-index l.parts)) l.writer
