use Rattle.std.proofs.Common.{◌≡◌, map, take}
use Rattle.sql_tree.specs.declared.statement.Item.{Item}
use Rattle.table_machine.specs.Columns.{column_place}
use Rattle.table_binder.proofs.results.bind_items.Given as goal

abbrev pub invariant-items : goal.invariant-items
invariant-items l = l.places.items ≡ map (λ (i : Item). column_place l.columns i.column) (take l.item-index l.items)
