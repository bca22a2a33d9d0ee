use Rattle.session_model.proofs.Carried.{tables_stored}
use Rattle.session_model.proofs.laws.tables_still_stand.Goals as goal

pub returns : goal.returns
returns c owner cell tree rows is e = tables_stored owner cell e tree is rows
