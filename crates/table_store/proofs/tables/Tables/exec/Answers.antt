use Rattle.std.proofs.Common.{◌≡◌, map, subst, rules}
use Rattle.table_store.specs.Shelves.{joined, AllHold}
use Rattle.table_store.proofs.Unequal.{all_differ}
use Rattle.table_store.proofs.tables.Tables.exec.Goals as goal

pub returns-in_default-clause-keys : goal.returns-in_default-clause-keys
returns-in_default-clause-keys c =
    let same : joined c.self.inside.defs.items (map (λ v. v.items) c.self.inside.rows.items) ≡ c.args.self.now = search rules in
    all_differ c.args.self.now (subst AllHold same c.self.invariant.2)

pub returns-clause-keys : goal.returns-clause-keys
returns-clause-keys c = all_differ _ (subst (λ w. AllHold (joined w (map (λ v. v.items) c.exec_on.new.rows.items))) c.deref.ensures.value c.exec_on.ensures.hold)
