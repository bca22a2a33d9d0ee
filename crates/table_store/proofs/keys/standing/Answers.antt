use Rattle.std.proofs.Common.{true, false, sym, ◌∙◌}
use Rattle.table_store.specs.Keys.{has}
use Rattle.table_store.proofs.Walked.{found_twice, found_more, turned, on_false}
use Rattle.table_store.proofs.keys.standing.Goals as goal

pub returns-then-not-branch : goal.returns-then-not-branch
returns-then-not-branch c =
    let e = c.in_ok-insert.ensures in
    let inv = c.cells.invariant in
    found_twice c.args.cells.now c.cells.cell-index c.cells.keys c.in-Some.key c.cells-test.true (sym c.key_in.ensures ∙ c.in-Some.is) inv.0 inv.1 inv.2 c.insert.new.self
    (on_false c.in_ok-insert.field-0 c.if-not-branch.true e.unchanged) (turned false (has c.cells.keys c.in-Some.key) (sym c.if-not-branch.true ∙ e.added))

pub cells-preserved : goal.cells-preserved
cells-preserved c =
    let e = c.in_ok-insert.ensures in
    let inv = c.cells.invariant in
    found_more c.args.cells.now c.cells.cell-index c.cells.keys c.in-Some.key c.cells-test.true (sym c.key_in.ensures ∙ c.in-Some.is) inv.0 inv.1 inv.2 c.insert.new.self
    e.updates (turned true (has c.cells.keys c.in-Some.key) (sym c.if-not-branch.false ∙ e.added))
