use Rattle.std.proofs.Common.{◌≡◌, ◌<◌, ◌^◌, take}
use Rattle.sql_tokens.specs.Classes.{number_from}
use Rattle.sql_tokens.proofs.runs.number_of.Given as goal

abbrev pub invariant-digits : goal.invariant-digits
invariant-digits l = record {
  value : l.number ≡ number_from 0 (take l.digit-index l.digits);
  small : l.number < 2 ^ 127;
}
