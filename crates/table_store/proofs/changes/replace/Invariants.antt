use Rattle.std.proofs.Common.{◌≡◌, ◌≤◌, length}
use Rattle.table_store.specs.Changing.{chosen_rows}
use Rattle.table_store.proofs.changes.replace.Given as goal

abbrev pub invariant-changes : goal.invariant-changes
invariant-changes l = (chosen_rows l.rows.items l.left.items ≡ chosen_rows l.initial.rows.items l.initial.left.items) × (length l.left.items ≤ length l.rows.items)

abbrev pub decreases-changes : goal.decreases-changes
decreases-changes l = length l.left.items
