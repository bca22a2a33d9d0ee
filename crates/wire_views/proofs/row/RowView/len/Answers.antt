use Rattle.std.proofs.Common.{length, sym, ap, ◌∙◌}
use Rattle.wire_views.proofs.Whole.{as_many}
use Rattle.wire_views.proofs.row.RowView.len.Goals as goal

pub returns : goal.returns
returns c = c.from.ensures ∙ sym (as_many c.self.inside.count c.self.inside.cells.now c.self.invariant) ∙ ap length c.self.view_is
