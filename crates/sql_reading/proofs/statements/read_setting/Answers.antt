use Rattle.sql_readers.specs.Productions.{setting}
use Rattle.sql_reading.proofs.Steps.{gives}
use Rattle.sql_reading.proofs.statements.read_setting.Goals as goal

pub returns-then-is_text : goal.returns-then-is_text
unfolding setting
returns-then-is_text c = search (gives, c.if-is_text.ensures, c.read_text.ensures)

pub returns-then-is_number : goal.returns-then-is_number
unfolding setting
returns-then-is_number c = search (gives, c.if-is_text.ensures, c.if-is_number.ensures, c.read_number.ensures)

pub returns-then-eat_sign : goal.returns-then-eat_sign
unfolding setting
returns-then-eat_sign c =
    let plus = c.if-eat_sign.ensures in
    search (gives, c.if-is_text.ensures, c.if-is_number.ensures, plus.0, plus.1, c.read_number-then-eat_sign.ensures)

pub returns-then-eat_sign-2 : goal.returns-then-eat_sign-2
unfolding setting
returns-then-eat_sign-2 c =
    let plus = c.if-eat_sign.ensures in
    let minus = c.if-eat_sign-2.ensures in
    search (gives, c.if-is_text.ensures, c.if-is_number.ensures, plus.0, plus.1, minus.0, minus.1, c.read_negated.ensures) depth 9

pub returns : goal.returns
unfolding setting
returns c =
    let plus = c.if-eat_sign.ensures in
    let minus = c.if-eat_sign-2.ensures in
    search (gives, c.if-is_text.ensures, c.if-is_number.ensures, plus.0, plus.1, minus.0, minus.1, c.read_named.ensures) depth 9
