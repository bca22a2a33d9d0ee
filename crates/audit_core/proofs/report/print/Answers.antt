use Rattle.std.proofs.Common.{inr, refl, ◌∙◌}
use Rattle.audit_core.proofs.Reporting.{wrote_front}
use Rattle.audit_core.proofs.report.print.Goals as goal

pub returns-clause-printed : goal.returns-clause-printed
returns-clause-printed g c = inr (inr (refl, wrote_front _ _ c.as_slice.result.now _ c.in-Err-write_whole.field-0.done c.in-Err-write_whole.ensures.written c.in-Err-write_whole.ensures.done (c.as_slice.ensures ∙ c.in-Ok.ensures)))
