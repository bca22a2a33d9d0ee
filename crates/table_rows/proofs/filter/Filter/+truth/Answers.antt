use Rattle.std.proofs.Common.{arith}
use Rattle.table_rows.specs.Filters as spec
use Rattle.table_rows.proofs.ThreeValued.{all_of-more, any_of-more}
use Rattle.table_rows.proofs.filter.Filter.+truth.Goals as goal

pub alls-preserved : goal.alls-preserved
alls-preserved t c =
    let e = all_of-more (spec.truth c.args.row.now) c.as_slice-part-items.result.now c.alls.part-index c.part-item.result (omega arith) in
    cc

pub anys-preserved : goal.anys-preserved
anys-preserved t c =
    let e = any_of-more (spec.truth c.args.row.now) c.as_slice-part-items-in-Any.result.now c.anys.part-index c.part-item-in-anys.result (omega arith) in
    cc
