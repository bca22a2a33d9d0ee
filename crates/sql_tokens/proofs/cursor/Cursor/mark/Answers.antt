use Rattle.sql_tokens.proofs.Marks.{pair_takes}
use Rattle.std.proofs.Common.{sym}
use Rattle.sql_tokens.proofs.cursor.Cursor.mark.Goals as goal

pub returns-in-Some : goal.returns-in-Some
returns-in-Some c = pair_takes _ _ c.self.view_is c.in-Some.sign c.in-len2-up.len_at_least (sym c.in-Some.ensures)
