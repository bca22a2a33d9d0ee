use Rattle.std.proofs.Common.{◌≡◌, ◌≤◌, ◌+◌, ◌-◌, List, map, length}
use Rattle.std.specs.Prelude.{max}
use Rattle.table_machine.specs.declared.table.TableDef.{TableDef}
use Rattle.table_store.specs.Shelves.{joined}
use Rattle.table_store.proofs.tables.make_rows.Given as goal

abbrev pub invariant-tables : goal.invariant-tables
invariant-tables l =
    ((defs : List TableDef) → joined defs (map (λ v. v.items) l.rows.items) ≡ joined defs (map (λ v. v.items) l.initial.rows.items))
    × (length l.rows.items ≤ max (length l.initial.rows.items) (l.place + 1))

abbrev pub decreases-tables : goal.decreases-tables
decreases-tables l = (l.place + 1) - length l.rows.items
