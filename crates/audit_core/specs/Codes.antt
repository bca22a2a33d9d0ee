-- Exit statuses.
use Rattle.std.specs.Prelude.{ℕ}
use Rattle.audit_core.specs.declared.status.AuditStatus.{AuditStatus}
use Rattle.audit_core.specs.declared.status.AuditStatus.TheVariants as ends

abbrev pub code_of : AuditStatus → ℕ
code_of ends.Done = 0
code_of ends.Usage = 1
code_of ends.BadMaster = 2
code_of ends.RingRefused = 2
code_of (ends.Broken line) = 3
code_of (ends.LineTooLong line) = 3
code_of (ends.ReadFault file) = 4
code_of ends.WriteFault = 5
code_of ends.NoMemory = 6
code_of ends.Spent = 8
