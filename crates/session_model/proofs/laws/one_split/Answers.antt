use Rattle.session_model.proofs.OneStream.{one_stream}
use Rattle.session_model.proofs.laws.one_split.Goals as goal

pub returns : goal.returns
returns c = record { one = one_stream }
