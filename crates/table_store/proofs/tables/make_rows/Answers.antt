use Rattle.std.proofs.Common.{arith, ap, ◌∙◌, map, length}
use Rattle.table_store.specs.Shelves.{joined}
use Rattle.table_store.proofs.Shelved.{grown, length_push}
use Rattle.table_store.proofs.tables.make_rows.Goals as goal

pub tables-preserved : goal.tables-preserved
tables-preserved c = (
  λ defs. ap (λ w. joined defs (map (λ v. v.items) w)) c.in_ok-push.ensures.items ∙ (grown (λ v. v.items) defs c.tables.rows.items c.new.result c.new.ensures.items ∙ c.tables.invariant.0 defs),
  let e = ap length c.in_ok-push.ensures.items ∙ length_push c.tables.rows.items c.new.result in grind arith,
)
