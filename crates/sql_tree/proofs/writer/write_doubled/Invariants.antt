use Rattle.std.proofs.Common.{◌≡◌, ◌++◌, take}
use Rattle.sql_tokens.specs.Tokens.{doubled}
use Rattle.sql_tree.proofs.writer.write_doubled.Given as goal

abbrev pub invariant-bytes : goal.invariant-bytes
invariant-bytes l = l.out.items ≡ l.fn.out.items ++ doubled l.fn.quote (take l.byte-index l.text)
