use Rattle.audit_core.proofs.Told.{where_told}
use Rattle.audit_core.proofs.files.master_key.Goals as goal

pub returns-in-Ok-clause-found : goal.returns-in-Ok-clause-found
returns-in-Ok-clause-found g c = where_told _ _ _ (λ file e told. c.in-Ok.ensures.key file e told)

pub returns-in-Err-NoKey-clause-found : goal.returns-in-Err-NoKey-clause-found
returns-in-Err-NoKey-clause-found g c = where_told _ _ _ (λ file e told. rw c.in-Err-NoKey.field-0-is at (c.in-Err-NoKey.ensures.key file e told))
