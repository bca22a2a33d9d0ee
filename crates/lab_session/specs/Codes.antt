-- The exit status of each end.
use Rattle.std.specs.Prelude.{ℕ}
use Rattle.lab_session.specs.declared.status.Status.{Status}
use Rattle.lab_session.specs.declared.status.Status.TheVariants as ends

abbrev pub code_of : Status → ℕ
code_of ends.Done = 0
code_of ends.Usage = 1
code_of (ends.BadClient offset kind) = 3
code_of (ends.ClientCut offset) = 3
code_of ends.ReadFault = 4
code_of ends.WriteFault = 5
code_of ends.NoMemory = 6
code_of ends.Spent = 8
