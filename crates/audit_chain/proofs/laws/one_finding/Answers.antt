use Rattle.audit_chain.proofs.Telling.{one_log}
use Rattle.audit_chain.proofs.laws.one_finding.Goals as goal

pub returns : goal.returns
returns c = one_log
