use Rattle.std.proofs.Common.{sym, ap, ◌∙◌, ◌++◌, length, []}
use Rattle.table_machine.specs.Faults.{key_fault}
use Rattle.table_machine.specs.Machine.{insert}
use Rattle.table_machine.specs.Stored.{stored}
use Rattle.table_store.specs.Changing.{new_fault}
use Rattle.table_store.proofs.Keyed.{insert_key, change_stands, change_fails}
use Rattle.table_store.proofs.changes.insert.Goals as goal

pub returns-in-Some : goal.returns-in-Some
returns-in-Some c =
    let def = c.args.def.now in
    let rows = c.args.rows.now.items in
    let all = insert (stored c.args.given.now) def.columns c.args.names.now c.args.new.now rows in
    let bound = rw c.as_slice.ensures at c.in_ok-added.ensures in
    let fault = ap (λ w. key_fault (stored []) def.columns def.key (rows ++ w)) (sym bound.1) ∙ (insert_key def rows c.in_ok-added.added.items c.requires.holds
    ∙ (sym (c.in_ok-fault.ensures ∙ ap (λ w. new_fault def w c.deref-2.result.now) c.deref.ensures.value ∙ ap (new_fault def rows) c.deref-2.ensures.value) ∙ c.in-Some.is)) in
    let p = change_fails c.args.given.now def (length c.args.new.now) all rows c.in-Some.fault fault in
    (bound.0, sym p.0, sym p.1)

pub returns : goal.returns
returns c =
    let def = c.args.def.now in
    let rows = c.args.rows.now.items in
    let all = insert (stored c.args.given.now) def.columns c.args.names.now c.args.new.now rows in
    let bound = rw c.as_slice.ensures at c.in_ok-added.ensures in
    let fault = ap (λ w. key_fault (stored []) def.columns def.key (rows ++ w)) (sym bound.1) ∙ (insert_key def rows c.in_ok-added.added.items c.requires.holds
    ∙ (sym (c.in_ok-fault.ensures ∙ ap (λ w. new_fault def w c.deref-2.result.now) c.deref.ensures.value ∙ ap (new_fault def rows) c.deref-2.ensures.value) ∙ c.in-None.is)) in
    let p = change_stands c.args.given.now def (length c.args.new.now) all rows fault in
    (bound.0, sym p.0, (c.in_ok-append-in-None.ensures.items ∙ ap (λ w. rows ++ w) bound.1) ∙ sym p.1)
