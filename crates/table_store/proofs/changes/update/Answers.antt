use Rattle.std.proofs.Common.{sym, ap, ◌∙◌, length}
use Rattle.table_machine.specs.Machine.{kept}
use Rattle.table_machine.specs.Stored.{stored}
use Rattle.table_machine.specs.declared.table.Outcome.TheVariants as outcome
use Rattle.table_store.specs.Changing.{changed_fault, chosen_rows}
use Rattle.table_store.proofs.Selected.{kept_same}
use Rattle.table_store.proofs.Updated.{update_fails, update_stands}
use Rattle.table_store.proofs.changes.update.Goals as goal

pub returns-in-Some : goal.returns-in-Some
returns-in-Some c =
    let def = c.args.def.now in
    let rows = c.args.rows.now.items in
    let sets = c.in_ok-sets.sets.items in
    let bound = c.in_ok-sets.ensures in
    let changed = rw (c.deref.ensures.value, c.deref-2.ensures.value) at c.in_ok-changed.ensures in
    let fault = rw (c.deref-3.ensures.value, c.deref-4.ensures.value, c.deref-5.ensures.value) at c.in_ok-fault.ensures in
    let e = ap (λ w. changed_fault def sets (chosen_rows rows w)) (sym changed) ∙ (sym fault ∙ c.in-Some.is) in
    let p = update_fails c.args.given.now def c.args.sets.now c.args.cond.now sets c.in_ok-sets.filter bound.1 rows c.requires.holds (length (kept (stored c.args.given.now) def.columns c.args.cond.now rows)) c.in-Some.fault e in
    (bound.0, sym p.0, sym p.1)

pub returns : goal.returns
returns c =
    let def = c.args.def.now in
    let rows = c.args.rows.now.items in
    let sets = c.in_ok-sets.sets.items in
    let bound = c.in_ok-sets.ensures in
    let changed = rw (c.deref.ensures.value, c.deref-2.ensures.value) at c.in_ok-changed.ensures in
    let fault = rw (c.deref-3.ensures.value, c.deref-4.ensures.value, c.deref-5.ensures.value) at c.in_ok-fault.ensures in
    let e = ap (λ w. changed_fault def sets (chosen_rows rows w)) (sym changed) ∙ (sym fault ∙ c.in-None.is) in
    let p = update_stands c.args.given.now def c.args.sets.now c.args.cond.now sets c.in_ok-sets.filter bound.1 rows c.requires.holds (length (kept (stored c.args.given.now) def.columns c.args.cond.now rows)) e in
    let count = rw c.deref-in-None.ensures.value at c.count_kept-count.ensures.value in
    let n = count ∙ ap length (kept_same c.args.given.now def.columns c.args.cond.now c.in_ok-sets.filter bound.1.passes rows) in
    (bound.0, ap outcome.Count n ∙ sym p.0, (c.replace.ensures ∙ ap (chosen_rows rows) changed) ∙ sym p.1)
