use Rattle.std.proofs.Common.{refl}
use Rattle.sql_tokens.proofs.Running.{none_zero}
use Rattle.sql_tokens.proofs.runs.is_text.Goals as goal

pub returns-in-Ok : goal.returns-in-Ok
returns-in-Ok c = (λ _. record { utf8 = c.in-Ok.ensures.cases.1; no_zero = none_zero c.args.bytes.now c.if-contains.ensures.value }, λ _. refl)
