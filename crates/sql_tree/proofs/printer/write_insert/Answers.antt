use Rattle.sql_tree.proofs.Rendering.{next}
use Rattle.sql_tree.proofs.printer.write_insert.Goals as goal

pub returns : goal.returns
returns c = next c.in_ok-word.ensures (next c.in_ok-word-2.ensures (next c.in_ok-name.ensures (next c.in_ok-write_columns.ensures (next c.in_ok-word-3.ensures (c.in_ok-write_commas.ensures)))))
