use Rattle.std.proofs.Common.{◌≡◌, ◌<◌, arith, rules, sym, subst, map, length, Some}
use Rattle.std.specs.Prelude.{slice_get, IfOk, OnErr, if◌then◌else◌}
use Rattle.std.proofs.lemmas.List.{length-map}
use Rattle.table_machine.specs.Reordered.{reordered}
use Rattle.table_store.specs.Shelves.{joined, AllHold}
use Rattle.table_store.proofs.Executed.{get_at, get_mapped, map_set}
use Rattle.table_store.proofs.Rearranged.{no_table, some_at, can, arranged, stays, holds}
use Rattle.table_store.proofs.tables.reorder_on.Goals as goal

pub returns-then-table-defs-clause-exact : goal.returns-then-table-defs-clause-exact
returns-then-table-defs-clause-exact c = no_table c.args.defs.now (map (λ v. v.items) c.args.rows.now.items) c.args.table c.args.places.now (omega arith)

pub returns-clause-exact : goal.returns-clause-exact
returns-clause-exact c =
    let xs = c.make_rows.new.rows.items in
    let k = c.args.table in
    let now = c.index_mut.result.now in
    let s = some_at c.args.defs.now k (omega arith) in
    let r : slice_get xs k ≡ Some now = get_at xs k now (search rules) (search rules) in
    let within : k < length (map (λ v. v.items) xs) = rw (length-map xs (λ v. v.items)) (search rules) in
    let old = joined c.args.defs.now (map (λ v. v.items) c.args.rows.now.items) in
    can c.args.defs.now (map (λ v. v.items) xs) k s.0 now.items s.1 (get_mapped (λ v. v.items) xs k now r) within old (c.make_rows.ensures.same c.args.defs.now) c.args.places.now c.reorder.result c.reorder.ensures.exact

pub returns-clause-ok : goal.returns-clause-ok
returns-clause-ok c =
    let xs = c.make_rows.new.rows.items in
    let k = c.args.table in
    let now = c.index_mut.result.now in
    let s = some_at c.args.defs.now k (omega arith) in
    let r : slice_get xs k ≡ Some now = get_at xs k now (search rules) (search rules) in
    let within : k < length (map (λ v. v.items) xs) = rw (length-map xs (λ v. v.items)) (search rules) in
    let old = joined c.args.defs.now (map (λ v. v.items) c.args.rows.now.items) in
    subst (λ w. IfOk c.reorder.result (λ done. joined c.args.defs.now w ≡ (if done then reordered k c.args.places.now old else old))) (sym (map_set (λ v. v.items) xs k c.reorder.new.rows))
    (arranged c.args.defs.now (map (λ v. v.items) xs) k s.0 now.items s.1 (get_mapped (λ v. v.items) xs k now r) within old (c.make_rows.ensures.same c.args.defs.now) c.args.places.now c.reorder.result c.reorder.new.rows.items c.reorder.ensures.rows)

pub returns-clause-err : goal.returns-clause-err
returns-clause-err c =
    let xs = c.make_rows.new.rows.items in
    let k = c.args.table in
    let now = c.index_mut.result.now in
    let s = some_at c.args.defs.now k (omega arith) in
    let r : slice_get xs k ≡ Some now = get_at xs k now (search rules) (search rules) in
    let within : k < length (map (λ v. v.items) xs) = rw (length-map xs (λ v. v.items)) (search rules) in
    let old = joined c.args.defs.now (map (λ v. v.items) c.args.rows.now.items) in
    subst (λ w. OnErr c.reorder.result (joined c.args.defs.now w ≡ old)) (sym (map_set (λ v. v.items) xs k c.reorder.new.rows))
    (stays c.args.defs.now (map (λ v. v.items) xs) k s.0 now.items s.1 (get_mapped (λ v. v.items) xs k now r) within old (c.make_rows.ensures.same c.args.defs.now) c.args.places.now c.reorder.result c.reorder.new.rows.items c.reorder.ensures.err)

pub returns-clause-hold : goal.returns-clause-hold
returns-clause-hold c =
    let xs = c.make_rows.new.rows.items in
    let k = c.args.table in
    let now = c.index_mut.result.now in
    let s = some_at c.args.defs.now k (omega arith) in
    let r : slice_get xs k ≡ Some now = get_at xs k now (search rules) (search rules) in
    let within : k < length (map (λ v. v.items) xs) = rw (length-map xs (λ v. v.items)) (search rules) in
    let old = joined c.args.defs.now (map (λ v. v.items) c.args.rows.now.items) in
    subst (λ w. AllHold (joined c.args.defs.now w)) (sym (map_set (λ v. v.items) xs k c.reorder.new.rows))
    (holds c.args.defs.now (map (λ v. v.items) xs) k s.0 now.items s.1 (get_mapped (λ v. v.items) xs k now r) within old (c.make_rows.ensures.same c.args.defs.now) c.args.places.now c.reorder.result c.reorder.new.rows.items c.reorder.ensures.exact c.reorder.ensures.rows c.reorder.ensures.err c.requires.hold)
