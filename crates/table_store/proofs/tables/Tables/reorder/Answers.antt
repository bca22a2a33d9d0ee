use Rattle.std.proofs.Common.{◌≡◌, ◌↔◌, true, map, subst, rules}
use Rattle.std.specs.Prelude.{slice_get, IfOk}
use Rattle.table_machine.specs.Reordered.{CanReorder}
use Rattle.table_store.specs.Shelves.{joined, AllHold}
use Rattle.table_store.proofs.Unequal.{all_differ}
use Rattle.table_store.proofs.tables.Tables.reorder.Goals as goal

pub returns-clause-exact : goal.returns-clause-exact
returns-clause-exact c =
    let same : joined c.deref.result.now (map (λ v. v.items) c.self.inside.rows.items) ≡ c.args.self.now = search rules in
    subst (λ w. IfOk c.reorder_on.result (λ done. (done ≡ true) ↔ CanReorder c.args.places.now (slice_get w c.args.table))) same c.reorder_on.ensures.exact

pub returns-clause-keys : goal.returns-clause-keys
returns-clause-keys c = all_differ _ (subst (λ w. AllHold (joined w (map (λ v. v.items) c.reorder_on.new.rows.items))) c.deref.ensures.value c.reorder_on.ensures.hold)
