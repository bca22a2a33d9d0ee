use Rattle.std.proofs.Common.{sym, subst}
use Rattle.sql_tokens.specs.Comments.{IsText}
use Rattle.sql_tokens.proofs.Fronts.{text_bad}
use Rattle.sql_tokens.proofs.cursor.Cursor.text.Goals as goal

pub returns-then-not-is_text : goal.returns-then-not-is_text
returns-then-not-is_text c = let h = rw c.in-Some.is at c.in_ok-content.ensures.found in text_bad _ c.requires.some c.requires.starts _ _ h (λ text. let no = c.if-not-is_text.ensures.1 (subst IsText (sym c.as_slice.ensures) text) in cc)
