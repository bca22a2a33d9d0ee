-- The devices that an end leaves as they were.
use Rattle.std.specs.Prelude.{◌≡◌, ◌⊎◌}
use Rattle.audit_core.specs.declared.status.FolderFile.TheVariants as files
use Rattle.audit_core.specs.declared.status.AuditStatus.{AuditStatus}
use Rattle.audit_core.specs.declared.status.AuditStatus.TheVariants as ends

-- at each end the devices behind the one where the run ended
abbrev pub Untouched : {S T U K : Type 0} → AuditStatus → S → S → T → T → U → U → K → K → Type 0
Untouched ends.Usage master master' ring ring' log log' output output' = (master' ≡ master) × (ring' ≡ ring) × (log' ≡ log) × (output' ≡ output)
Untouched ends.BadMaster master master' ring ring' log log' output output' = (ring' ≡ ring) × (log' ≡ log) × (output' ≡ output)
Untouched (ends.ReadFault files.Master) master master' ring ring' log log' output output' = (ring' ≡ ring) × (log' ≡ log) × (output' ≡ output)
Untouched ends.RingRefused master master' ring ring' log log' output output' = (log' ≡ log) × (output' ≡ output)
Untouched (ends.ReadFault files.Keystore) master master' ring ring' log log' output output' = (log' ≡ log) × (output' ≡ output)
Untouched (ends.ReadFault files.Audit) master master' ring ring' log log' output output' = output' ≡ output
Untouched ends.NoMemory master master' ring ring' log log' output output' = output' ≡ output
Untouched ends.Spent master master' ring ring' log log' output output' = output' ≡ output
Untouched status master master' ring ring' log log' output output' = Unit {0}

-- a device is as it was, or else this holds
abbrev pub OnlyWhere : {D : Type 0} → D → D → Type 0 → Type 0
OnlyWhere old new P = (new ≡ old) ⊎ P
