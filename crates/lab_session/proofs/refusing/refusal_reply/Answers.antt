use Rattle.std.proofs.Common.{◌++◌, ◌∙◌, ap}
use Rattle.pg_wire.specs.declared.back.Back.{Back}
use Rattle.pg_wire.specs.Backs.{back_frame}
use Rattle.session_model.specs.Refusals.{refusal_message}
use Rattle.lab_session.proofs.AnswerLaws.{error_is, alone_bytes}
use Rattle.lab_session.proofs.refusing.refusal_reply.Goals as goal

pub returns : goal.returns
returns c =
    let e = error_is c.args.cause c.refusal_code-code.result c.as_slice.result.now c.refusal_code-code.ensures (c.as_slice.ensures ∙ c.in_ok-text.ensures) in
    alone_bytes (refusal_message c.args.cause) c.new-reply.result.items c.write_error.new.out.items c.write_ready.new.out.items c.new-reply.ensures.items
    (c.in_ok-write_error.ensures.appended ∙ ap (λ (m : Back). c.new-reply.result.items ++ back_frame m) e) c.in_ok-write_ready.ensures
