use Rattle.std.proofs.Common.{◌≡◌, ◌<◌, ◌^◌, drop}
use Rattle.command_words.specs.Numbers.{number_from}
use Rattle.command_words.proofs.number.read_number.Given as goal

abbrev pub invariant-digits : goal.invariant-digits
invariant-digits l = record {
  same : number_from l.value (drop l.i l.text) ≡ number_from 0 l.text;
  fits : l.value < 2 ^ 64;
}
