use Rattle.sql_tree.proofs.Rendering.{next}
use Rattle.sql_tree.proofs.printer.write_list.Goals as goal

pub returns : goal.returns
returns g c = next c.in_ok-sign.ensures (next c.in_ok-write_commas.ensures (c.in_ok-sign-2.ensures))
