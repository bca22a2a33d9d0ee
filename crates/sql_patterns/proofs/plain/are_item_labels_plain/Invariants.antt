use Rattle.std.proofs.Common.{◌≡◌, drop}
use Rattle.std.specs.List.{list_all}
use Rattle.sql_tree.specs.declared.statement.Item.{Item}
use Rattle.sql_patterns.specs.Standing.{is_plain_label}
use Rattle.sql_patterns.proofs.plain.are_item_labels_plain.Given as goal

abbrev pub invariant-each : goal.invariant-each
invariant-each l = list_all (λ (i : Item). is_plain_label i.label) l.columns ≡ list_all (λ (i : Item). is_plain_label i.label) (drop l.item-index l.columns)
