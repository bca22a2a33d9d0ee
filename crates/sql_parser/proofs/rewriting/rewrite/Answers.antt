use Rattle.std.proofs.Common.{refl}
use Rattle.sql_parser.proofs.Rewritten as facts
use Rattle.sql_parser.proofs.rewriting.rewrite.Goals as goal

pub returns-in-Ok-clause-rewritten : goal.returns-in-Ok-clause-rewritten
returns-in-Ok-clause-rewritten c = facts.rewritten c.written.result c.args.text.now c.args.limit c.in-Ok.statement c.args.out.now.items c.written.new.out.items c.in-Ok.ensures.told c.written.ensures.ok

pub returns-in-Ok-clause-refused : goal.returns-in-Ok-clause-refused
returns-in-Ok-clause-refused c = facts.refused c.written.result c.args.text.now c.args.limit c.written.ensures.cause

pub returns-in-Ok-clause-only : goal.returns-in-Ok-clause-only
returns-in-Ok-clause-only c = λ outcome is. facts.answered _ c.written.result c.in-Ok.statement outcome c.written.ensures.cause (c.in-Ok.ensures.only outcome is)

pub returns-in-Ok-clause-kept : goal.returns-in-Ok-clause-kept
returns-in-Ok-clause-kept c = c.written.ensures.err

pub returns-in-Err-clause-refused : goal.returns-in-Err-clause-refused
returns-in-Err-clause-refused c = c.in-Err.ensures.told

pub returns-in-Err-clause-only : goal.returns-in-Err-clause-only
returns-in-Err-clause-only c = λ outcome is. facts.answered_fault (Unit {0}) c.in-Err.fault outcome (c.in-Err.ensures.only outcome is)

pub returns-in-Err-clause-kept : goal.returns-in-Err-clause-kept
returns-in-Err-clause-kept c = refl
