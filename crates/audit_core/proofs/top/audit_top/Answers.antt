use Rattle.std.proofs.Common.{List, ℕ}
use Rattle.audit_core.proofs.Told.{where_map, where_all, where_both}
use Rattle.audit_core.proofs.Ending.{refused_due, reported_due, reported_all, reported_untouched, ring_behind, log_behind}
use Rattle.audit_core.proofs.top.audit_top.Goals as goal

pub returns-in-Err-Refused-audit_key-clause-exact : goal.returns-in-Err-Refused-audit_key-clause-exact
returns-in-Err-Refused-audit_key-clause-exact g c one =
    where_map _ _ _ _ (λ m is. where_map _ _ _ _ (λ r none. where_all _ _ _ (λ l. refused_due m r l c.in-Ok.key is none)) (rw c.in-Err-Refused-audit_key.field-0-is at c.in-Err-Refused-audit_key.ensures.found)) c.in-Ok.ensures.found

pub returns-clause-exact : goal.returns-clause-exact
returns-clause-exact g c one =
    where_map _ _ _ _ (λ m is. where_map _ _ _ _ (λ r both. where_map _ _ _ _ (λ l due. reported_due m r l c.in-Ok.key c.in-Ok-audit_key.key c.report.result is both.0 both.1 due) c.report.ensures.exact)
    (where_both _ _ _ _ c.in-Ok-audit_key.ensures.found c.in-Ok-audit_key.ensures.exact)) c.in-Ok.ensures.found

pub returns-clause-outcome : goal.returns-clause-outcome
returns-clause-outcome g c = reported_all _ _ _ _ _ _ _ _ c.in-Ok.key c.in-Ok-audit_key.key c.report.result c.report.ensures.shape c.in-Ok.ensures.found c.in-Ok-audit_key.ensures.found c.report.ensures.reported

pub returns-clause-untouched : goal.returns-clause-untouched
returns-clause-untouched g c = reported_untouched c.report.result _ _ _ _ _ _ _ _ c.report.ensures.shape c.report.ensures.silent

pub returns-clause-log_after : goal.returns-clause-log_after
returns-clause-log_after g c = log_behind _ _ _ _ _ _ c.in-Ok.key c.in-Ok-audit_key.key c.in-Ok.ensures.found c.in-Ok-audit_key.ensures.found

pub returns-clause-keystore_after : goal.returns-clause-keystore_after
returns-clause-keystore_after g c = ring_behind _ _ _ _ c.in-Ok.key c.in-Ok.ensures.found
