use Rattle.std.proofs.Common.{◌≡◌, ◌↔◌, true, subst, rules}
use Rattle.std.specs.Prelude.{slice_get, IfOk}
use Rattle.table_machine.specs.Reordered.{CanReorder}
use Rattle.lab_backend.proofs.backend.LabBackend.reorder.Goals as goal

pub returns-clause-exact : goal.returns-clause-exact
returns-clause-exact c =
    let same : c.self.inside.tables ≡ c.args.self.now.tables = search rules in
    subst (λ w. IfOk c.reorder.result (λ done. (done ≡ true) ↔ CanReorder c.args.places.now (slice_get w c.args.table))) same c.reorder.ensures.exact
