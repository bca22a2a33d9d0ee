use Rattle.sql_readers.specs.Productions.{value}
use Rattle.sql_reading.proofs.Steps.{gives}
use Rattle.sql_reading.proofs.parts.read_value.Goals as goal

pub returns-then-is_text : goal.returns-then-is_text
unfolding value
returns-then-is_text c = search (gives, c.if-is_text.ensures, c.read_text.ensures)

pub returns-then-is_number : goal.returns-then-is_number
unfolding value
returns-then-is_number c = search (gives, c.if-is_text.ensures, c.if-is_number.ensures, c.read_number.ensures)

pub returns-then-eat_sign : goal.returns-then-eat_sign
unfolding value
returns-then-eat_sign c =
    let plus = c.if-eat_sign.ensures in
    search (gives, c.if-is_text.ensures, c.if-is_number.ensures, plus.0, plus.1, c.read_number-then-eat_sign.ensures)

pub returns-then-eat_sign-2 : goal.returns-then-eat_sign-2
unfolding value
returns-then-eat_sign-2 c =
    let plus = c.if-eat_sign.ensures in
    let minus = c.if-eat_sign-2.ensures in
    search (gives, c.if-is_text.ensures, c.if-is_number.ensures, plus.0, plus.1, minus.0, minus.1, c.read_negated.ensures) depth 9

pub returns-then-is_word : goal.returns-then-is_word
unfolding value
returns-then-is_word c =
    let plus = c.if-eat_sign.ensures in
    let minus = c.if-eat_sign-2.ensures in
    search (gives, c.if-is_text.ensures, c.if-is_number.ensures, plus.0, plus.1, minus.0, minus.1, c.if-is_word.ensures, c.read_null.ensures) depth 9

pub returns : goal.returns
unfolding value
returns c =
    let plus = c.if-eat_sign.ensures in
    let minus = c.if-eat_sign-2.ensures in
    search (gives, c.if-is_text.ensures, c.if-is_number.ensures, plus.0, plus.1, minus.0, minus.1, c.if-is_word.ensures, c.read_parameter.ensures) depth 9
