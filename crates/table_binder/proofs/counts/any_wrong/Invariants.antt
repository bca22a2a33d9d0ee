use Rattle.std.proofs.Common.{◌≡◌, drop}
use Rattle.std.specs.Prelude.{not}
use Rattle.std.specs.List.{list_any}
use Rattle.table_machine.specs.Faults.{is_count}
use Rattle.table_binder.proofs.counts.any_wrong.Given as goal

abbrev pub invariant-rows : goal.invariant-rows
invariant-rows l = list_any (λ row. not (is_count l.columns l.names row)) (drop l.row-index l.rows) ≡ list_any (λ row. not (is_count l.columns l.names row)) l.rows
