-- What is printed of a log, and how that ends.
use Rattle.std.specs.Prelude.{ℕ, ◌≡◌, ◌<◌, ◌⊎◌, List, [], ◌++◌, length, Bool, true, false, Option}
use Rattle.std.specs.Fmt.{decimal}
use Rattle.acra_devices.specs.Known.{Grew}
use Rattle.audit_chain.specs.Findings.{Finding, Finds}
use Rattle.audit_core.specs.Texts.{printed}
use Rattle.audit_core.specs.declared.status.FolderFile.TheVariants as files
use Rattle.audit_core.specs.declared.status.AuditStatus.{AuditStatus}
use Rattle.audit_core.specs.declared.status.AuditStatus.TheVariants as ends

-- a device failed, or there was no memory
abbrev pub is_fault : AuditStatus → Bool
is_fault (ends.ReadFault file) = true
is_fault ends.WriteFault = true
is_fault ends.NoMemory = true
is_fault status = false

-- a front of a line was written, and not all of it
abbrev pub WroteFront : Option (List ℕ) → Option (List ℕ) → List ℕ → Type 0
WroteFront held held' line = (front : List ℕ) × (behind : List ℕ) × (front ++ behind ≡ line) × (0 < length behind) × Grew held held' front

-- the line was printed and the end is the wanted one; or nothing was, for want of memory; or a front of it
abbrev pub Printed : Option (List ℕ) → Option (List ℕ) → List ℕ → ℕ → List ℕ → AuditStatus → AuditStatus → Type 0
Printed held held' word number last wanted status =
    ((status ≡ wanted) × Grew held held' (word ++ decimal number ++ last)) ⊎ ((status ≡ ends.NoMemory) × Grew held held' []) ⊎ ((status ≡ ends.WriteFault) × WroteFront held held' (word ++ decimal number ++ last))

-- the end that a finding has
abbrev pub end_of : Finding → AuditStatus
end_of (Finding.Whole lines) = ends.Done
end_of (Finding.Broken line) = ends.Broken line
end_of (Finding.Long line) = ends.LineTooLong line
end_of Finding.Spent = ends.Spent

-- the wanted end, or a fault
abbrev pub EndsSo : AuditStatus → AuditStatus → Type 0
EndsSo wanted status = (status ≡ wanted) ⊎ (is_fault status ≡ true)

-- nothing is printed before such an end
abbrev pub is_silent : AuditStatus → Bool
is_silent ends.Done = false
is_silent (ends.Broken line) = false
is_silent (ends.LineTooLong line) = false
is_silent ends.WriteFault = false
is_silent status = true

-- an end of verifying and printing
abbrev pub IsReport : AuditStatus → Type 0
IsReport ends.Usage = ⊥
IsReport ends.BadMaster = ⊥
IsReport ends.RingRefused = ⊥
IsReport (ends.ReadFault file) = file ≡ files.Audit
IsReport status = Unit {0}

-- what an end says of the log, under a key, and of what was printed
abbrev pub Reported : List ℕ → Option (List ℕ) → Option (List ℕ) → AuditStatus → List ℕ → Type 0
Reported key held held' ends.Done log = (lines : List (List ℕ)) × Finds key log (Finding.Whole lines) × Grew held held' (printed (Finding.Whole lines))
Reported key held held' (ends.Broken line) log = Finds key log (Finding.Broken line) × Grew held held' (printed (Finding.Broken line))
Reported key held held' (ends.LineTooLong line) log = Finds key log (Finding.Long line) × Grew held held' (printed (Finding.Long line))
Reported key held held' ends.Spent log = Finds key log Finding.Spent × Grew held held' []
Reported key held held' (ends.ReadFault file) log = Grew held held' []
Reported key held held' ends.NoMemory log = Grew held held' []
Reported key held held' ends.WriteFault log = (finding : Finding) × Finds key log finding × WroteFront held held' (printed finding)
Reported key held held' ends.Usage log = ⊥
Reported key held held' ends.BadMaster log = ⊥
Reported key held held' ends.RingRefused log = ⊥

abbrev pub IsDueReport : List ℕ → AuditStatus → List ℕ → Type 0
IsDueReport key status log = (finding : Finding) → Finds key log finding → EndsSo (end_of finding) status
