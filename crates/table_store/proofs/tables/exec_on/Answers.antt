use Rattle.std.proofs.Common.{◌≡◌, ◌≤◌, ◌<◌, arith, rules, sym, ap, ◌∙◌, subst, map, length, Some}
use Rattle.std.specs.Prelude.{slice_get, IfOk, OnErr}
use Rattle.std.proofs.lemmas.List.{length-map}
use Rattle.table_machine.specs.declared.table.Outcome.TheVariants as outcome
use Rattle.table_machine.specs.Stored.{stored}
use Rattle.table_machine.specs.Tables.{told, answered, executed}
use Rattle.table_store.specs.Shelves.{joined, AllHold}
use Rattle.table_store.proofs.Executed.{missing_answer, missing_tables, get_at, get_mapped, map_set, hold_at, done_steps, call_answers, call_stays, call_holds}
use Rattle.table_store.proofs.tables.exec_on.Goals as goal

pub returns-then-place-defs-clause-ok : goal.returns-then-place-defs-clause-ok
returns-then-place-defs-clause-ok c =
    let past = subst (λ p. length c.args.defs.now ≤ p) c.place_of-place.ensures.value (omega arith) in (
      ap outcome.Fault c.in_ok-no_table.ensures ∙ missing_answer c.args.given.now c.args.statement.now c.args.name.now c.args.defs.now (map (λ v. v.items) c.args.rows.now.items) c.requires.named past,
      missing_tables c.args.given.now c.args.statement.now c.args.name.now c.args.defs.now (map (λ v. v.items) c.args.rows.now.items) c.requires.named past,
    )

pub run-requires-clause-holds : goal.run-requires-clause-holds
run-requires-clause-holds c =
    let d : slice_get c.args.defs.now c.place_of-place.result ≡ Some c.index-defs-place.result = get_at c.args.defs.now c.place_of-place.result c.index-defs-place.result (omega arith) (search rules) in
    let r : slice_get c.make_rows.new.rows.items c.place_of-place.result ≡ Some c.index_mut.result.now = get_at c.make_rows.new.rows.items c.place_of-place.result c.index_mut.result.now (search rules) (search rules) in
    let all = subst AllHold (sym (c.make_rows.ensures.same c.args.defs.now)) c.requires.hold in
    hold_at c.args.defs.now (map (λ v. v.items) c.make_rows.new.rows.items) c.place_of-place.result c.index-defs-place.result c.index_mut.result.now.items all d (get_mapped (λ v. v.items) c.make_rows.new.rows.items c.place_of-place.result c.index_mut.result.now r)

pub returns-clause-ok : goal.returns-clause-ok
returns-clause-ok c =
    let xs = c.make_rows.new.rows.items in
    let k = c.place_of-place.result in
    let def = c.index-defs-place.result in
    let now = c.index_mut.result.now in
    let d : slice_get c.args.defs.now k ≡ Some def = get_at c.args.defs.now k def (omega arith) (search rules) in
    let r : slice_get xs k ≡ Some now = get_at xs k now (search rules) (search rules) in
    let within : k < length (map (λ v. v.items) xs) = rw (length-map xs (λ v. v.items)) (search rules) in
    let st = done_steps c.args.given.now k def c.args.statement.now now.items c.run.result c.told.result c.run.new.rows.items c.run.ensures c.told.ensures in
    let old = joined c.args.defs.now (map (λ v. v.items) c.args.rows.now.items) in
    subst (λ w. IfOk c.told.result (λ o. (o ≡ told (answered (stored c.args.given.now) c.args.statement.now old)) × (joined c.args.defs.now w ≡ executed (stored c.args.given.now) c.args.statement.now old)))
    (sym (map_set (λ v. v.items) xs k c.run.new.rows))
    (call_answers c.args.given.now c.args.statement.now c.args.name.now c.args.defs.now (map (λ v. v.items) xs) c.requires.named k c.place_of-place.ensures.value def now.items d (get_mapped (λ v. v.items) xs k now r) within (joined c.args.defs.now (map (λ v. v.items) c.args.rows.now.items)) (c.make_rows.ensures.same c.args.defs.now) c.told.result c.run.new.rows.items st)

pub returns-clause-err : goal.returns-clause-err
returns-clause-err c =
    let xs = c.make_rows.new.rows.items in
    let k = c.place_of-place.result in
    let def = c.index-defs-place.result in
    let now = c.index_mut.result.now in
    let d : slice_get c.args.defs.now k ≡ Some def = get_at c.args.defs.now k def (omega arith) (search rules) in
    let r : slice_get xs k ≡ Some now = get_at xs k now (search rules) (search rules) in
    let within : k < length (map (λ v. v.items) xs) = rw (length-map xs (λ v. v.items)) (search rules) in
    let st = done_steps c.args.given.now k def c.args.statement.now now.items c.run.result c.told.result c.run.new.rows.items c.run.ensures c.told.ensures in
    subst (λ w. OnErr c.told.result (joined c.args.defs.now w ≡ joined c.args.defs.now (map (λ v. v.items) c.args.rows.now.items))) (sym (map_set (λ v. v.items) xs k c.run.new.rows))
    (call_stays c.args.given.now c.args.statement.now c.args.name.now c.args.defs.now (map (λ v. v.items) xs) c.requires.named k c.place_of-place.ensures.value def now.items d (get_mapped (λ v. v.items) xs k now r) within (joined c.args.defs.now (map (λ v. v.items) c.args.rows.now.items)) (c.make_rows.ensures.same c.args.defs.now) c.told.result c.run.new.rows.items st)

pub returns-clause-hold : goal.returns-clause-hold
returns-clause-hold c =
    let xs = c.make_rows.new.rows.items in
    let k = c.place_of-place.result in
    let def = c.index-defs-place.result in
    let now = c.index_mut.result.now in
    let d : slice_get c.args.defs.now k ≡ Some def = get_at c.args.defs.now k def (omega arith) (search rules) in
    let r : slice_get xs k ≡ Some now = get_at xs k now (search rules) (search rules) in
    let within : k < length (map (λ v. v.items) xs) = rw (length-map xs (λ v. v.items)) (search rules) in
    let st = done_steps c.args.given.now k def c.args.statement.now now.items c.run.result c.told.result c.run.new.rows.items c.run.ensures c.told.ensures in
    subst (λ w. AllHold (joined c.args.defs.now w)) (sym (map_set (λ v. v.items) xs k c.run.new.rows))
    (call_holds c.args.given.now c.args.statement.now c.args.name.now c.args.defs.now (map (λ v. v.items) xs) c.requires.named k c.place_of-place.ensures.value def now.items d (get_mapped (λ v. v.items) xs k now r) within (joined c.args.defs.now (map (λ v. v.items) c.args.rows.now.items)) (c.make_rows.ensures.same c.args.defs.now) c.told.result c.run.new.rows.items st c.requires.hold)
