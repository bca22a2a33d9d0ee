use Rattle.std.proofs.Common.{rules, ◌≡◌, sym, ap, ◌∙◌}
use Rattle.wire_views.specs.Rows.{cells_in}
use Rattle.wire_views.proofs.Whole.{no_cells, splits_at, not_cut_at}
use Rattle.wire_views.proofs.row.RowView.split_first.Goals as goal

pub returns-then-self-eq0 : goal.returns-then-self-eq0
returns-then-self-eq0 c =
    let zero : c.self.inside.count ≡ 0 = search rules in
    sym c.self.view_is ∙ ap (λ n. cells_in n c.self.inside.cells.now) zero ∙ no_cells c.self.inside.cells.now

pub invariant_of-result : goal.invariant_of-result
invariant_of-result c =
    let some : c.self.inside.count ≡ 0 → ⊥ = search rules in
    (splits_at c.self.inside.count c.self.inside.cells.now _ c.in-Ok.cells.now some c.in-Ok.ensures c.self.invariant).0

pub returns-in-Ok : goal.returns-in-Ok
returns-in-Ok c =
    let some : c.self.inside.count ≡ 0 → ⊥ = search rules in
    sym c.self.view_is ∙ (splits_at c.self.inside.count c.self.inside.cells.now _ c.in-Ok.cells.now some c.in-Ok.ensures c.self.invariant).1

pub returns-in-Err : goal.returns-in-Err
returns-in-Err c =
    let some : c.self.inside.count ≡ 0 → ⊥ = search rules in
    absurd (not_cut_at c.self.inside.count c.self.inside.cells.now c.in-Err.field-0 some c.in-Err.ensures c.self.invariant)
