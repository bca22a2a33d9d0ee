use Rattle.std.proofs.Common.{◌≡◌, map, take}
use Rattle.session_model.specs.Rewritten.{rewritten_value}
use Rattle.lab_session.proofs.rewriting.rewritten_row.Given as goal

abbrev pub invariant-values : goal.invariant-values
invariant-values l = l.row ≡ map (rewritten_value l.cell) (take l.value-index l.values)
