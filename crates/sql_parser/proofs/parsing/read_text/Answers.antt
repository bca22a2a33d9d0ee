use Rattle.std.proofs.Common.{sym}
use Rattle.sql_parser.proofs.Judged as facts
use Rattle.sql_parser.proofs.parsing.read_text.Goals as goal

pub returns-then-text-limit : goal.returns-then-text-limit
returns-then-text-limit c = facts.told_long c.args.text.now c.args.limit c.refused.result c.if-text-limit.true c.refused.ensures

pub returns-in-Some : goal.returns-in-Some
returns-in-Some c =
    facts.told_other c.args.text.now c.args.limit c.in-Ok.lexed.tokens c.as_slice-tokens.result c.in-Ok.lexed.fault c.in-Ok.ensures c.as_slice-tokens.ensures c.in-Some.place c.refused-in-Some.result c.if-text-limit.false (sym c.in-Some.ensures)
    c.refused-in-Some.ensures

pub read_tokens-requires-clause-small : goal.read_tokens-requires-clause-small
read_tokens-requires-clause-small c = facts.shown_small c.args.text.now c.args.limit c.in-Ok.lexed.tokens c.as_slice-tokens.result c.in-Ok.lexed.fault c.in-Ok.ensures c.as_slice-tokens.ensures

pub read_tokens-requires-clause-inside : goal.read_tokens-requires-clause-inside
read_tokens-requires-clause-inside c = sym c.in-None.ensures

pub returns : goal.returns
returns c =
    facts.told_read c.args.text.now c.args.limit c.in-Ok.lexed.tokens c.as_slice-tokens.result c.in-Ok.lexed.fault c.in-Ok.ensures c.as_slice-tokens.ensures c.if-text-limit.false (sym c.in-None.ensures) c.read_tokens.result c.read_tokens.ensures
