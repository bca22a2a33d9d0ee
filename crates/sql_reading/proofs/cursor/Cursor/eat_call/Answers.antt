use Rattle.std.proofs.Common.{sym, ap, ◌∙◌}
use Rattle.sql_tokens.specs.Seen.{seen}
use Rattle.sql_tokens.specs.declared.sign.Sign.TheVariants as sign
use Rattle.sql_tree.specs.Spelling.{tokens_of}
use Rattle.sql_readers.specs.Readers.{begins}
use Rattle.sql_readers.specs.Looks.{is_sign}
use Rattle.sql_reading.specs.Cursor.{rest_of}
use Rattle.sql_reading.proofs.Taken.{call_taken, rest_tokens}
use Rattle.sql_reading.proofs.cursor.Cursor.eat_call.Goals as goal

pub returns : goal.returns
returns c =
    let ahead = ap (begins (is_sign sign.Open)) (c.skip.ensures ∙ ap rest_of (sym c.self.view_is) ∙ sym (rest_tokens c.self.inside.rest) ∙ ap tokens_of (sym c.rest.ensures)) in
    call_taken c.args.word.now (seen c.in-Some.token) _ _ c.in-Some.ensures.is (sym c.if-not-is_called.ensures) c.skip.ensures (ahead ∙ sym c.if-not-is_sign.ensures)
