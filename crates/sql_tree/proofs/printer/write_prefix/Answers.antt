use Rattle.sql_tree.proofs.Rendering.{next}
use Rattle.sql_tree.proofs.printer.write_prefix.Goals as goal

pub returns : goal.returns
returns c = next c.in_ok-substr.ensures (next c.in_ok-sign.ensures (next c.in_ok-name.ensures (next c.in_ok-sign-2.ensures (next c.in_ok-number.ensures (next c.in_ok-sign-3.ensures (next c.in_ok-number-2.ensures (c.in_ok-sign-4.ensures)))))))
