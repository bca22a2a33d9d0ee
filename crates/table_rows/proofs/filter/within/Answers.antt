use Rattle.std.proofs.Common.{arith}
use Rattle.sql_tree.specs.declared.condition.Op.TheVariants as op
use Rattle.table_rows.specs.Filters.{compared}
use Rattle.table_rows.proofs.ThreeValued.{any_of-more}
use Rattle.table_rows.proofs.filter.within.Goals as goal

pub terms-preserved : goal.terms-preserved
terms-preserved c =
    let e = any_of-more (λ b. compared c.args.row.now c.args.left.now op.Eq b) c.args.list.now c.terms.term-index c.term-item.result (omega arith) in
    cc
