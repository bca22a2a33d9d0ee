use Rattle.sql_tokens.proofs.Marks.{gap_takes}
use Rattle.std.proofs.Common.{sym}
use Rattle.sql_tokens.proofs.cursor.Cursor.front.Goals as goal

pub returns-in-Space-clause-reads : goal.returns-in-Space-clause-reads
returns-in-Space-clause-reads c = gap_takes _ _ c.self.view_is c.in-len1-up.len_at_least (sym c.in-Space.ensures)
