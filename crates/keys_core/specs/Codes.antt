-- The exit statuses.
use Rattle.std.specs.Prelude.{ℕ}
use Rattle.keys_core.specs.declared.status.KeysStatus.{KeysStatus}
use Rattle.keys_core.specs.declared.status.KeysStatus.TheVariants as ends

abbrev pub code_of : KeysStatus → ℕ
code_of ends.Done = 0
code_of ends.Usage = 1
code_of ends.BadMaster = 2
code_of (ends.RingRefused why) = 2
code_of (ends.Refused why) = 3
code_of (ends.ReadFault file) = 4
code_of ends.WriteFault = 5
code_of ends.NoMemory = 6
code_of ends.KeeperFault = 7
code_of ends.RandomFault = 8
