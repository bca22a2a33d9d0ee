use Rattle.sql_tree.proofs.Rendering.{next}
use Rattle.sql_tree.proofs.printer.write_delete.Goals as goal

pub returns : goal.returns
returns c = next c.in_ok-word.ensures (next c.in_ok-word-2.ensures (next c.in_ok-name.ensures (c.in_ok-write_where.ensures)))
