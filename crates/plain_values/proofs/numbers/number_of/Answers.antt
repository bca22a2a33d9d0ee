use Rattle.plain_values.proofs.Integers.{integer_utf8, beyond}
use Rattle.plain_values.proofs.numbers.number_of.Goals as goal

pub unreachable-requires : goal.unreachable-requires
unreachable-requires c = c.in-Err.ensures.cases.0 (integer_utf8 _ c.requires)

pub returns-in-Err-parse : goal.returns-in-Err-parse
returns-in-Err-parse c = beyond c.args.text.now c.in-Ok.text.now c.in-Ok.ensures.cases.0 c.requires c.in-Err-parse.ensures.value.0
