use Rattle.std.proofs.lemmas.Result.{on_err_weaker}
use Rattle.lab_backend.proofs.Answered.{read-grammatical, statement_replied, statement_may_reply, refusal_replied}
use Rattle.lab_backend.proofs.answers.answer_text.Goals as goal

pub answer_statement-requires : goal.answer_statement-requires
answer_statement-requires c = read-grammatical c.args.text.now c.in-Ok.statement c.in-Ok.ensures.told

pub returns-in-Ok-clause-ok : goal.returns-in-Ok-clause-ok
returns-in-Ok-clause-ok c =
    statement_replied c.answer_statement.result 0 c.args.text.now c.in-Ok.statement c.args.tables.now c.answer_statement.new.tables c.args.out.now.items c.answer_statement.new.out.items c.in-Ok.ensures.told
    c.answer_statement.ensures.ok c.answer_statement.ensures.appended c.answer_statement.ensures.writable

pub returns-in-Ok-clause-err : goal.returns-in-Ok-clause-err
returns-in-Ok-clause-err c =
    on_err_weaker c.answer_statement.result
    (λ h. statement_may_reply 0 c.args.text.now c.in-Ok.statement c.args.tables.now c.answer_statement.new.tables c.in-Ok.ensures.told h)
    c.answer_statement.ensures.err

pub returns-in-Err-Refused-clause-ok : goal.returns-in-Err-Refused-clause-ok
returns-in-Err-Refused-clause-ok c =
    refusal_replied c.refuse.result 0 c.args.text.now c.in-Err-Refused.field-0-0 c.args.tables.now c.args.out.now.items c.refuse.new.out.items (rw c.in-Err-Refused.field-0-is at c.in-Err-Refused.ensures.told)
    c.refuse.ensures.appended c.refuse.ensures.writable
