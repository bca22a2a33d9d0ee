use Rattle.sql_tokens.proofs.Marks.{sign_takes}
use Rattle.std.proofs.Common.{sym}
use Rattle.sql_tokens.proofs.cursor.Cursor.sign.Goals as goal

pub returns-in-Some : goal.returns-in-Some
returns-in-Some c = sign_takes _ _ c.self.view_is c.in-Some.sign c.in-len1-up.len_at_least (sym c.in-Some.ensures) c.requires.alone
