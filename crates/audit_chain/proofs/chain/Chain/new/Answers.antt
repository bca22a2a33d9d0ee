use Rattle.audit_chain.proofs.Behind.{stands_at_start}
use Rattle.audit_chain.proofs.chain.Chain.new.Goals as goal

pub returns-clause-stands : goal.returns-clause-stands
returns-clause-stands c = stands_at_start c.args.key
