use Rattle.table_binder.proofs.Bindings.{ok_as, before_alike}
use Rattle.table_binder.proofs.results.bind_keys.Goals as goal

pub returns : goal.returns
returns c = ok_as _ _ (λ keys h. before_alike c.args.columns.now c.args.order.now keys.items h) c.bind_places.result c.bind_places.ensures
