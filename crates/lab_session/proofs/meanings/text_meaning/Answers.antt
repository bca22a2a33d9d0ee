use Rattle.std.proofs.Common.{Ok}
use Rattle.lab_session.proofs.Meaning.{meant, told_refused}
use Rattle.lab_session.proofs.meanings.text_meaning.Goals as goal

pub returns-in-Err-Refused : goal.returns-in-Err-Refused
returns-in-Err-Refused c = told_refused c.args.text.now c.in-Err-Refused.field-0 c.in-Err-Refused.refusal _ c.refusal_of.result c.in-Err-Refused.field-0-is c.in-Err-Refused.refusal-is c.in-Err-Refused.ensures.told c.refusal_of.ensures

pub returns-in-Ok : goal.returns-in-Ok
returns-in-Ok c = meant c.args.text.now (Ok c.in-Ok.tree) c.meaning_of.result c.in-Ok.ensures.told c.meaning_of.ensures
