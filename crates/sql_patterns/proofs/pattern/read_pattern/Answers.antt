use Rattle.std.proofs.Common.{arith}
use Rattle.sql_patterns.proofs.Read.{shown_small, read_ok}
use Rattle.sql_patterns.proofs.pattern.read_pattern.Goals as goal

pub pattern_of-requires : goal.pattern_of-requires
pattern_of-requires c = shown_small c.in-Some.tokens c.args.text.now c.as_slice.result (rw c.in-Some.is at c.in_ok-tokens.ensures) c.as_slice.ensures

pub returns-in-Some : goal.returns-in-Some
returns-in-Some c = read_ok c.args.text.now c.in-Some.tokens c.as_slice.result c.pattern_of.result (rw c.in-Some.is at c.in_ok-tokens.ensures) c.as_slice.ensures c.pattern_of.ensures (omega arith)
