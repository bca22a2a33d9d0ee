use Rattle.sql_readers.specs.Productions.{body_of}
use Rattle.sql_readers.specs.Productions.{body}
use Rattle.sql_reading.proofs.Steps.{gives_ended, ended, ended_seen, ended_first, gives_seen, gives_left, gives_then, gives_right_at, ended_right_at}
use Rattle.sql_reading.proofs.statements.read_body.Goals as goal

pub returns-then-eat_word : goal.returns-then-eat_word
unfolding body
returns-then-eat_word c =
    gives_seen _ body_of _ _ _ _
    (gives_left _ _ _ _ _ _ _ c.if-eat_word.ensures.1 (gives_seen _ _ _ _ _ _ (gives_then _ _ _ _ _ c.if-eat_word.ensures.0 c.read_select.ensures)))

pub returns-then-eat_word-2 : goal.returns-then-eat_word-2
unfolding body
returns-then-eat_word-2 c =
    gives_seen _ body_of _ _ _ _
    (gives_right_at _ _ _ _ _ _ _ _ c.if-eat_word.ensures.0 c.if-eat_word.ensures.1
    (gives_left _ _ _ _ _ _ _ c.if-eat_word-2.ensures.1 (gives_seen _ _ _ _ _ _ (gives_then _ _ _ _ _ c.if-eat_word-2.ensures.0 c.read_insert.ensures))))

pub returns-then-eat_word-3 : goal.returns-then-eat_word-3
unfolding body
returns-then-eat_word-3 c =
    gives_seen _ body_of _ _ _ _
    (gives_right_at _ _ _ _ _ _ _ _ c.if-eat_word.ensures.0 c.if-eat_word.ensures.1
    (gives_right_at _ _ _ _ _ _ _ _ c.if-eat_word-2.ensures.0 c.if-eat_word-2.ensures.1
    (gives_left _ _ _ _ _ _ _ c.if-eat_word-3.ensures.1 (gives_seen _ _ _ _ _ _ (gives_then _ _ _ _ _ c.if-eat_word-3.ensures.0 c.read_update.ensures)))))

pub returns-then-eat_word-4 : goal.returns-then-eat_word-4
unfolding body
returns-then-eat_word-4 c =
    gives_seen _ body_of _ _ _ _
    (gives_right_at _ _ _ _ _ _ _ _ c.if-eat_word.ensures.0 c.if-eat_word.ensures.1
    (gives_right_at _ _ _ _ _ _ _ _ c.if-eat_word-2.ensures.0 c.if-eat_word-2.ensures.1
    (gives_right_at _ _ _ _ _ _ _ _ c.if-eat_word-3.ensures.0 c.if-eat_word-3.ensures.1
    (gives_left _ _ _ _ _ _ _ c.if-eat_word-4.ensures.1 (gives_seen _ _ _ _ _ _ (gives_then _ _ _ _ _ c.if-eat_word-4.ensures.0 c.read_delete.ensures))))))

pub returns-in_err-word : goal.returns-in_err-word
unfolding body
returns-in_err-word c =
    gives_ended _ _ _ _ _
    (ended_seen _
    (ended_right_at _ _ c.if-eat_word.ensures.0 c.if-eat_word.ensures.1
    (ended_right_at _ _ c.if-eat_word-2.ensures.0 c.if-eat_word-2.ensures.1
    (ended_right_at _ _ c.if-eat_word-3.ensures.0 c.if-eat_word-3.ensures.1
    (ended_right_at _ _ c.if-eat_word-4.ensures.0 c.if-eat_word-4.ensures.1
    (ended_seen _ (ended_first _ (ended _ _ _ _ _ c.from_residual.ensures.1 c.in_err-word.ensures))))))))

pub returns : goal.returns
unfolding body
returns c =
    gives_seen _ body_of _ _ _ _
    (gives_right_at _ _ _ _ _ _ _ _ c.if-eat_word.ensures.0 c.if-eat_word.ensures.1
    (gives_right_at _ _ _ _ _ _ _ _ c.if-eat_word-2.ensures.0 c.if-eat_word-2.ensures.1
    (gives_right_at _ _ _ _ _ _ _ _ c.if-eat_word-3.ensures.0 c.if-eat_word-3.ensures.1
    (gives_right_at _ _ _ _ _ _ _ _ c.if-eat_word-4.ensures.0 c.if-eat_word-4.ensures.1
    (gives_seen _ _ _ _ _ _ (gives_then _ _ _ _ _ c.in_ok-word.ensures.2 c.read_set.ensures))))))
