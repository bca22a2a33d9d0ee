use Rattle.table_store.proofs.Unequal.{key_is_exact}
use Rattle.table_store.proofs.laws.key_is_exact.Goals as goal

pub returns : goal.returns
returns c = key_is_exact
