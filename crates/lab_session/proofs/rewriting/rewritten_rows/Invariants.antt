use Rattle.std.proofs.Common.{◌≡◌, map, take}
use Rattle.session_model.specs.Rewritten.{rewritten_value}
use Rattle.lab_session.proofs.rewriting.rewritten_rows.Given as goal

abbrev pub invariant-rows : goal.invariant-rows
invariant-rows l = l.new ≡ map (map (rewritten_value l.cell)) (take l.row-index l.rows)
