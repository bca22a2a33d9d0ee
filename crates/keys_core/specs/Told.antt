-- What is told of a random device before and after.
use Rattle.std.specs.Prelude.{◌≡◌, Option, Some, None, Result, Ok, Err}
use Rattle.rand_core.specs.Stream.{Stream}
use Rattle.keystore.specs.Rings.{RingState}
use Rattle.keys_core.specs.declared.status.RingTrouble.{RingTrouble}
use Rattle.keys_core.specs.declared.opening.Shut.{Shut}
use Rattle.keys_core.specs.declared.opening.Shut.TheVariants as shut

-- where it tells what comes before and after; it doesn't begin to tell
abbrev pub Drew : Option Stream → Option Stream → (Stream → Stream → Type 0) → Type 0
Drew old None P = Unit {0}
Drew (Some s) (Some t) P = P s t
Drew None (Some t) P = ⊥

-- the ring is the one that is opened, or the trouble is
abbrev pub OpensAs : Result RingState Shut → Stream → Result RingState RingTrouble × Stream → Type 0
OpensAs (Ok r) t opened = opened ≡ (Ok r, t)
OpensAs (Err (shut.Trouble why)) t opened = opened ≡ (Err why, t)
OpensAs (Err shut.NoMemory) t opened = Unit {0}
OpensAs (Err shut.RandomFault) t opened = Unit {0}
