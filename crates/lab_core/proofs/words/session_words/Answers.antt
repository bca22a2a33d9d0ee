use Rattle.std.specs.Prelude.{string_bytes}
use Rattle.lab_core.proofs.SessionWords.{session_is}
use Rattle.lab_core.proofs.words.session_words.Goals as goal

pub returns-in-Some-read_number : goal.returns-in-Some-read_number
returns-in-Some-read_number c =
    let r = c.in-Some.ensures.named in
    session_is string_bytes c.args.words.now c.index-words-0.result c.index-words-1.result c.index-words-2.result _ _ _ _ _ c.if-words-ne3.false c.index-words-0.is c.index-words-1.is c.index-words-2.is
    c.as_str.ensures.value c.as_str-2.ensures.value c.as_str-in-Some.ensures.value c.if-ne.ensures r.0 r.1 c.in-Some-read_number.ensures
