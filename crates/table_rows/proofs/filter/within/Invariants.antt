use Rattle.std.proofs.Common.{◌≡◌, take, map}
use Rattle.sql_tree.specs.declared.condition.Op.TheVariants as op
use Rattle.table_machine.specs.Logic.{any_of}
use Rattle.table_rows.specs.Filters.{compared}
use Rattle.table_rows.proofs.filter.within.Given as goal

abbrev pub invariant-terms : goal.invariant-terms
invariant-terms l = l.any ≡ any_of (map (λ b. compared l.row l.left op.Eq b) (take l.term-index l.list))
