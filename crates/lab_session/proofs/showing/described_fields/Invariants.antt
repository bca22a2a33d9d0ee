use Rattle.std.proofs.Common.{◌≡◌, ◌++◌, drop}
use Rattle.session_model.specs.Shown.{described}
use Rattle.lab_session.proofs.showing.described_fields.Given as goal

abbrev pub invariant-fields : goal.invariant-fields
invariant-fields l = l.shown ++ described (drop l.place l.protected) (drop l.place l.fields) ≡ described l.protected l.fields
