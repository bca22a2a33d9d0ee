use Rattle.session_model.proofs.Meant.{served_is}
use Rattle.session_model.proofs.laws.served_is_statement.Goals as goal

pub returns : goal.returns
returns c = served_is
