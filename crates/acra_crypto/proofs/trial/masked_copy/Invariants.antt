use Rattle.std.proofs.Common.{◌≡◌, ◌++◌, drop}
use Rattle.acra_crypto.specs.Trial.{masked}
use Rattle.acra_crypto.proofs.trial.masked_copy.Given as goal

abbrev pub invariant-loop-i : goal.invariant-loop-i
invariant-loop-i l = l.out.items ++ masked l.key l.nonce l.i (drop l.i l.plain) ≡ masked l.key l.nonce 0 l.plain
