use Rattle.std.proofs.Common.{refl}
use Rattle.sql_tokens.proofs.Marks.{nested_split}
use Rattle.sql_tokens.proofs.cursor.Cursor.nested.Goals as goal

pub returns : goal.returns
returns c = nested_split _ _ c.self.view_is c.in-Some.len _ _ c.in-Some.ensures.some c.split_at.ensures.front c.split_at.ensures.back (c.if-not-is_text.ensures.0 refl)
