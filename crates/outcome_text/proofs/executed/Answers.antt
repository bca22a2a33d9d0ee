use Rattle.lab_backend.proofs.Answered.{read-grammatical}
use Rattle.outcome_text.proofs.executed.Goals as goal

pub exec-requires : goal.exec-requires
exec-requires c = read-grammatical c.args.text.now c.in_ok-statement.statement c.in_ok-statement.ensures.told
