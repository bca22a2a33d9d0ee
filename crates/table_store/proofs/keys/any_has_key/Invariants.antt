use Rattle.std.proofs.Common.{◌≡◌, List, map, drop}
use Rattle.std.specs.List.{list_any}
use Rattle.table_machine.specs.declared.cell.Cell.{Cell}
use Rattle.table_rows.specs.Filters.{cell_at}
use Rattle.table_store.specs.Keys.{Holds, is_among}
use Rattle.table_store.proofs.keys.any_has_key.Given as goal

abbrev pub invariant-rows : goal.invariant-rows
invariant-rows l = (all : List Cell) → Holds l.keys all → list_any (is_among all) (map (λ row. cell_at row l.place) (drop l.row-index l.rows)) ≡ list_any (is_among all) (map (λ row. cell_at row l.place) l.rows)
