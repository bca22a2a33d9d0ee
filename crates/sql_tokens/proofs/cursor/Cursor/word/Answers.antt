use Rattle.std.proofs.Common.{sym, subst}
use Rattle.std.specs.Prelude.{Some}
use Rattle.sql_tokens.specs.Steps.{Takes}
use Rattle.sql_tokens.proofs.Fronts.{word_reads, word_bad, word_name}
use Rattle.sql_tokens.proofs.cursor.Cursor.word.Goals as goal

pub returns-then-word-gt-LONGEST_NAME : goal.returns-then-word-gt-LONGEST_NAME
returns-then-word-gt-LONGEST_NAME c = word_bad _ c.requires.some c.requires.starts _ _ c.take_run-word.ensures.whole c.take_run-word.ensures.all c.take_run-word.ensures.stops c.if-word-gt-LONGEST_NAME.true

pub word_token-requires : goal.word_token-requires
word_token-requires c = word_name _ c.requires.some c.requires.starts _ _ c.take_run-word.ensures.whole c.take_run-word.ensures.all c.take_run-word.ensures.stops _ c.if-word-gt-LONGEST_NAME.false c.in_ok-folded_word.ensures

pub returns : goal.returns
returns c = subst (λ x. Takes c.args.self.now (Some x) c.take_run-word.new.self) (sym c.word_token.ensures) (word_reads _ c.requires.some c.requires.starts _ _ c.take_run-word.ensures.whole c.take_run-word.ensures.all c.take_run-word.ensures.stops _ c.if-word-gt-LONGEST_NAME.false c.in_ok-folded_word.ensures)
