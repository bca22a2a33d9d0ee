use Rattle.std.proofs.Common.{arith, rules, []}
use Rattle.table_store.proofs.Permuted.{row_moved}
use Rattle.table_store.proofs.reordering.arrange.Goals as goal

pub places-preserved : goal.places-preserved
places-preserved c = (
  row_moved [] c.args.places.now c.places.place-index c.args.rows.now.items c.places.rows.items c.places.arranged.items c.places.invariant.0 c.requires (omega arith) c.replace-row.result c.replace-row.new.dest c.push.new.self.items (search rules) (search rules) (search rules),
  search rules,
  search rules,
)
