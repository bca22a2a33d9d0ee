use Rattle.std.proofs.Common.{sym}
use Rattle.lab_session.proofs.Meant.{short_written}
use Rattle.lab_session.proofs.rewriting.cell_for.Goals as goal

pub seal_cell-requires-clause-short : goal.seal_cell-requires-clause-short
seal_cell-requires-clause-short c = short_written c.args.tree.now c.in-Some.plain.now c.requires (sym c.in-Some.ensures)
