use Rattle.sql_parser.proofs.Judged as facts
use Rattle.sql_parser.proofs.parsing.read_tokens.Goals as goal

pub new-cursor-requires : goal.new-cursor-requires
new-cursor-requires c = c.requires.small

pub refusal_after-refusal-requires : goal.refusal_after-refusal-requires
refusal_after-refusal-requires c = facts.ok_fits c.args.tokens.now c.new-cursor.result c.read_whole.new.cursor c.in-Ok.reading c.new-cursor.ensures c.in-Ok.ensures c.len.result c.len.ensures

pub judge_all-requires-clause-read : goal.judge_all-requires-clause-read
judge_all-requires-clause-read c =
    facts.ok_read c.args.tokens.now c.new-cursor.result c.read_whole.new.cursor c.in-Ok.reading c.new-cursor.ensures c.in-Ok.ensures c.args.bad c.args.end c.len.result c.refusal_after-refusal.result c.len.ensures c.refusal_after-refusal.ensures

pub judge_all-requires-clause-inside : goal.judge_all-requires-clause-inside
judge_all-requires-clause-inside c = c.requires.inside

pub misspelled-requires : goal.misspelled-requires
misspelled-requires c = facts.err_fits c.args.tokens.now c.new-cursor.result c.read_whole.new.cursor c.new-cursor.ensures (rw c.in-Err-Syntax.field-0-is at c.in-Err-Syntax.ensures) c.len-in-Err-Syntax.result c.len-in-Err-Syntax.ensures

pub returns-in-Ok : goal.returns-in-Ok
returns-in-Ok c =
    facts.ok_gives c.args.tokens.now c.new-cursor.result c.read_whole.new.cursor c.in-Ok.reading c.new-cursor.ensures c.in-Ok.ensures c.args.bad c.args.end c.len.result c.refusal_after-refusal.result c.judge_all.result c.len.ensures
    c.refusal_after-refusal.ensures c.judge_all.ensures

pub returns-in-Err-Syntax : goal.returns-in-Err-Syntax
returns-in-Err-Syntax c =
    facts.err_gives c.args.tokens.now c.new-cursor.result c.read_whole.new.cursor c.new-cursor.ensures (rw c.in-Err-Syntax.field-0-is at c.in-Err-Syntax.ensures) c.args.bad c.args.end c.len-in-Err-Syntax.result c.misspelled.result c.len-in-Err-Syntax.ensures c.misspelled.ensures
