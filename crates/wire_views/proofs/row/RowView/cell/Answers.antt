use Rattle.std.proofs.Common.{rules, ◌≡◌, ◌≤◌, drop, sym, ap, ◌∙◌, arith}
use Rattle.wire_views.proofs.Whole.{got, got_none, dropped}
use Rattle.wire_views.proofs.row.RowView.cell.Goals as goal

pub cells-init : goal.cells-init
cells-init c = sym c.again-row.ensures

pub returns-in-None : goal.returns-in-None
returns-in-None c =
    sym (got_none c.args.self.now c.cells.counter c.args.place (c.cells.invariant ∙ c.in-None.ensures) (omega (arith, c.cells-test.true)))

pub cells-preserved : goal.cells-preserved
cells-preserved c = dropped c.args.self.now c.cells.counter _ _ (c.cells.invariant ∙ c.in-Some.ensures)

pub returns-in-Some-split_first : goal.returns-in-Some-split_first
returns-in-Some-split_first c =
    let end : c.cells.counter ≡ c.args.place = search rules in
    sym (got c.args.self.now c.args.place _ _ (ap (λ n. drop n c.args.self.now) (sym end) ∙ c.cells.invariant ∙ c.in-Some-split_first.ensures))

pub returns-in-None-split_first : goal.returns-in-None-split_first
returns-in-None-split_first c =
    let end : c.cells.counter ≤ c.args.place = search rules in
    sym (got_none c.args.self.now c.cells.counter c.args.place (c.cells.invariant ∙ c.in-None-split_first.ensures) end)
