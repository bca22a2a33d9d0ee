use Rattle.std.proofs.Common.{◌≡◌, ◌++◌, ◌∷◌, [], sym, ap, ◌∙◌, length, slice_set, arith, rules, Some, None}
use Rattle.table_store.specs.Changing.{chosen_rows}
use Rattle.table_store.proofs.Shelved.{length_push}
use Rattle.table_store.proofs.Steps.{last_kept, last_set, set_length, ended}
use Rattle.table_store.proofs.changes.replace.Goals as goal

pub changes-preserved-in-Some-new : goal.changes-preserved-in-Some-new
changes-preserved-in-Some-new c =
    let rows = c.changes.rows.items in
    let left = c.pop.new.self.items in
    let new = c.in-Some-new.new in
    let popped : c.changes.left.items ≡ left ++ Some new ∷ [] = c.in-Some.ensures.items ∙ ap (λ w. left ++ w ∷ []) c.in-Some-new.is in
    let at : c.len-index.result ≡ length left = search rules in
    let count = ap length popped ∙ length_push left (Some new) in
    let wide = set_length rows c.len-index.result new in (
      ap (λ k. chosen_rows (slice_set rows k new) left) at ∙ (sym (last_set rows left new) ∙ (ap (chosen_rows rows) (sym popped) ∙ c.changes.invariant.0)),
      (let most = c.changes.invariant.1 in grind arith),
    )

pub changes-preserved : goal.changes-preserved
changes-preserved c =
    let rows = c.changes.rows.items in
    let left = c.pop.new.self.items in
    let none : c.in-Some.new ≡ None = search rules in
    let popped : c.changes.left.items ≡ left ++ None ∷ [] = c.in-Some.ensures.items ∙ ap (λ w. left ++ w ∷ []) none in
    let count = ap length popped ∙ length_push left None in (
      sym (last_kept rows left) ∙ (ap (chosen_rows rows) (sym popped) ∙ c.changes.invariant.0),
      (let most = c.changes.invariant.1 in grind arith),
    )

pub returns : goal.returns
returns c =
    let over : length c.changes.left.items ≡ 0 = search rules in
    sym (ended c.changes.rows.items c.changes.left.items over) ∙ c.changes.invariant.0
