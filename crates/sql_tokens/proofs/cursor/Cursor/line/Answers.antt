use Rattle.std.proofs.Common.{refl}
use Rattle.sql_tokens.proofs.Marks.{line_takes, line_bad}
use Rattle.sql_tokens.proofs.cursor.Cursor.line.Goals as goal

pub returns-then-is_text : goal.returns-then-is_text
returns-then-is_text c = line_takes _ _ _ c.take_run-inside.ensures.whole c.take_run-inside.ensures.all c.take_run-inside.ensures.stops (c.if-is_text.ensures.0 refl)

pub returns-else-is_text : goal.returns-else-is_text
returns-else-is_text c = line_bad _ _ _ c.take_run-inside.ensures.whole c.take_run-inside.ensures.all c.take_run-inside.ensures.stops (λ h. let no = c.if-is_text.ensures.1 h in cc)
