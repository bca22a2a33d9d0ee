use Rattle.std.proofs.Common.{arith, map, length, sym, ap, ◌∙◌, subst}
use Rattle.table_store.specs.Shelves.{joined, AllHold}
use Rattle.table_store.proofs.Shelved.{joined_none, empty_hold}
use Rattle.table_store.proofs.tables.Tables.new.Goals as goal

pub returns : goal.returns
returns c = ap (λ w. joined c.args.defs.items (map (λ v. v.items) w)) c.new.ensures.items ∙ joined_none c.args.defs.items

pub invariant_of-result : goal.invariant_of-result
invariant_of-result c = (
  c.requires,
  (let e = ap length c.new.ensures.items in omega arith),
  subst (λ w. AllHold (joined c.args.defs.items (map (λ v. v.items) w))) (sym c.new.ensures.items) (empty_hold c.args.defs.items),
)
