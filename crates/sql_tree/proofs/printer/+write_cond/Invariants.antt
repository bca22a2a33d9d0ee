use Rattle.std.proofs.Common.{take, map}
use Rattle.sql_tokens.specs.declared.token.Token.TheVariants as t
use Rattle.sql_tokens.specs.declared.keyword.Keyword.TheVariants as word
use Rattle.sql_tree.specs.Shapes.{joined, child, shape}
use Rattle.sql_tree.specs.Writing.{Wrote}
use Rattle.sql_tree.proofs.printer.+write_cond.Given as goal

abbrev pub invariant-ands : goal.invariant-ands
invariant-ands l = Wrote l.fn.writer (joined (t.Word word.And) child (map shape (take l.index l.part-items))) l.writer

abbrev pub invariant-ors : goal.invariant-ors
invariant-ors l = Wrote l.fn.writer (joined (t.Word word.Or) child (map shape (take l.index l.part-items))) l.writer
