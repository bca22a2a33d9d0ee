use Rattle.std.proofs.Common.{◌+◌, ◌≤◌, ◌^◌, arith}
use Rattle.sql_tokens.specs.Classes.{number_from}
use Rattle.sql_tokens.proofs.Digits.{number_from_step, number_from_front, if_none}
use Rattle.sql_tokens.proofs.runs.number_of.Goals as goal

pub returns-in_err-number-clause-none : goal.returns-in_err-number-clause-none
returns-in_err-number-clause-none c =
    let s = number_from_step c.args.digits.now c.digits.digit-index (omega arith) in
    let f = number_from_front c.args.digits.now (c.digits.digit-index + 1) in
    let large : 2 ^ 127 ≤ number_from 0 c.args.digits.now = omega (arith, c.in_err-number.ensures.none) in
    if_none _ large

pub digits-preserved : goal.digits-preserved
digits-preserved c =
    let s = number_from_step c.args.digits.now c.digits.digit-index (omega arith) in
    record { value = omega (arith, c.in_ok-number.ensures.some); small = c.in_ok-number.ensures.small }
