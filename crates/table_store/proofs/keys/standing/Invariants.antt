use Rattle.std.proofs.Common.{◌≡◌, [], ◌++◌, map, take, drop}
use Rattle.table_rows.specs.Looking.{seen}
use Rattle.table_store.specs.Keys.{Holds, broken_stored, standing}
use Rattle.table_store.proofs.keys.standing.Given as goal

abbrev pub invariant-cells : goal.invariant-cells
invariant-cells l =
    Holds l.keys (map seen (take l.cell-index l.cells))
    × (broken_stored (map seen (take l.cell-index l.cells)) (map seen (drop l.cell-index l.cells)) ≡ broken_stored [] (map seen l.cells))
    × (map seen (take l.cell-index l.cells) ++ standing (map seen (take l.cell-index l.cells)) (map seen (drop l.cell-index l.cells)) ≡ standing [] (map seen l.cells))
