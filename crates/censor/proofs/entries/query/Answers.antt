use Rattle.std.specs.Prelude.{Ok}
use Rattle.censor.proofs.Listed.{not_told}
use Rattle.censor.proofs.entries.query.Goals as goal

pub returns-in-Err-Refused : goal.returns-in-Err-Refused
returns-in-Err-Refused c = λ tree spelled. not_told c.parse.result tree c.in-Err-Refused.field-0 c.in-Err-Refused.field-0-0 c.in-Err-Refused.is c.in-Err-Refused.field-0-is (c.parse.ensures.only (Ok tree) spelled)
