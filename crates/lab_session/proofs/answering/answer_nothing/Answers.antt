use Rattle.std.proofs.Common.{◌∙◌}
use Rattle.pg_wire.specs.declared.back.Back.TheVariants as backs
use Rattle.lab_session.proofs.Relayed.{sent_as}
use Rattle.lab_session.proofs.AnswerLaws.{alone_bytes}
use Rattle.lab_session.proofs.answering.answer_nothing.Goals as goal

pub returns-clause-sent : goal.returns-clause-sent
returns-clause-sent g c = sent_as _ _ c.send.result _ _ (c.deref.ensures.value ∙ alone_bytes backs.EmptyQuery c.new-reply.result.items c.write_back.new.out.items c.write_ready.new.out.items c.new-reply.ensures.items c.in_ok-write_back.ensures.ok c.in_ok-write_ready.ensures) c.send.ensures.sent
