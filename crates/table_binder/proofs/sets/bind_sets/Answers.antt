use Rattle.table_binder.proofs.Bindings.{bound_as, set_alike}
use Rattle.table_binder.proofs.sets.bind_sets.Goals as goal

pub returns : goal.returns
returns c = bound_as _ _ _ (λ bound h. set_alike c.args.given.now c.args.columns.now c.args.sets.now bound.items h) c.bind_pairs.result c.bind_pairs.ensures
