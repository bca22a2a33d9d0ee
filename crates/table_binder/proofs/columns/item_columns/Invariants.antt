use Rattle.std.proofs.Common.{◌≡◌, map, take}
use Rattle.sql_tree.specs.declared.statement.Item.{Item}
use Rattle.table_machine.specs.Tables.{out_column}
use Rattle.table_binder.proofs.columns.item_columns.Given as goal

abbrev pub invariant-items : goal.invariant-items
invariant-items l = l.out.items ≡ map (λ (i : Item). out_column l.number l.columns i.label i.column) (take l.item-index l.items)
