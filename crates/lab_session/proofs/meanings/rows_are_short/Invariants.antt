use Rattle.std.proofs.Common.{◌≡◌, List, drop}
use Rattle.std.specs.List.{list_all}
use Rattle.sql_tree.specs.declared.condition.Operand.{Operand}
use Rattle.session_model.specs.Meanings.{is_short_value}
use Rattle.lab_session.proofs.meanings.rows_are_short.Given as goal

abbrev pub invariant-rows : goal.invariant-rows
invariant-rows l = list_all (λ (row : List Operand). list_all is_short_value row) l.rows ≡ list_all (λ (row : List Operand). list_all is_short_value row) (drop l.row-index l.rows)
