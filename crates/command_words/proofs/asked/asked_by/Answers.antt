use Rattle.std.proofs.Common.{codes, refl}
use Rattle.std.specs.Prelude.{string_bytes}
use Rattle.command_words.proofs.Spoken.{one_word}
use Rattle.command_words.proofs.asked.asked_by.Goals as goal

pub returns-then-eq-clause-help : goal.returns-then-eq-clause-help
returns-then-eq-clause-help c = (λ u. one_word string_bytes c.args.words.now c.word-item.result _ (codes "--help") c.in-len1.len_at_least c.in-len1.len_below c.word-item.is c.as_str.ensures.value c.if-eq.ensures, λ w. refl)

pub returns-then-eq-2-clause-version : goal.returns-then-eq-2-clause-version
returns-then-eq-2-clause-version c =
    (λ u. one_word string_bytes c.args.words.now c.word-item.result _ (codes "--version") c.in-len1.len_at_least c.in-len1.len_below c.word-item.is c.as_str-in-len1.ensures.value c.if-eq-2.ensures, λ w. refl)
