use Rattle.std.proofs.Common.{◌≡◌, ◌+◌, drop}
use Rattle.table_machine.specs.Columns.{place}
use Rattle.table_store.specs.Shelves.{is_def}
use Rattle.table_store.proofs.tables.place_of.Given as goal

abbrev pub invariant-tables : goal.invariant-tables
invariant-tables l = place (is_def l.name) (drop l.index l.defs) + l.index ≡ place (is_def l.name) l.defs
