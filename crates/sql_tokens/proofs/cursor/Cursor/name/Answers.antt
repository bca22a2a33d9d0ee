use Rattle.std.proofs.Common.{sym, subst, arith}
use Rattle.sql_tokens.specs.Comments.{IsText}
use Rattle.sql_tokens.proofs.Fronts.{not_empty_list, name_bad}
use Rattle.sql_tokens.proofs.cursor.Cursor.name.Goals as goal

pub returns-then-is_empty : goal.returns-then-is_empty
returns-then-is_empty c = let h = rw c.in-Some.is at c.in_ok-name.ensures.found in name_bad _ c.requires.some c.requires.starts _ _ h (λ _ least _. not_empty_list _ (c.if-is_empty.ensures) least)

pub returns-then-len-gt-LONGEST_NAME : goal.returns-then-len-gt-LONGEST_NAME
returns-then-len-gt-LONGEST_NAME c = let h = rw c.in-Some.is at c.in_ok-name.ensures.found in name_bad _ c.requires.some c.requires.starts _ _ h (λ _ _ most. omega (arith, c.len.ensures, c.if-len-gt-LONGEST_NAME.true, most))

pub returns-then-not-is_text : goal.returns-then-not-is_text
returns-then-not-is_text c = let h = rw c.in-Some.is at c.in_ok-name.ensures.found in name_bad _ c.requires.some c.requires.starts _ _ h (λ text _ _. let no = c.if-not-is_text.ensures.1 (subst IsText (sym c.as_slice.ensures) text) in cc)
