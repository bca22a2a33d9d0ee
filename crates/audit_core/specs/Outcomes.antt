-- How a run ends, by the words, the files and what is printed.
use Rattle.std.specs.Prelude.{ℕ, ◌≡◌, List, [], Option}
use Rattle.acra_devices.specs.Known.{Grew}
use Rattle.keystore.specs.Rings.{RingState}
use Rattle.audit_chain.specs.Findings.{Finding, Finds}
use Rattle.audit_core.specs.Keys.{IsMaster, IsKeystore, NoMaster, NoRing}
use Rattle.audit_core.specs.Reports.{EndsSo, end_of, Reported}
use Rattle.audit_core.specs.declared.status.FolderFile.TheVariants as files
use Rattle.audit_core.specs.declared.status.AuditStatus.{AuditStatus}
use Rattle.audit_core.specs.declared.status.AuditStatus.TheVariants as ends

-- the two files give this audit key
pub record GivesKey (master_file ring_file key : List ℕ) : Type 0 where
  pub master : List ℕ
  pub ring : RingState
  pub is_master : IsMaster master_file master
  pub is_ring : IsKeystore master ring_file ring
  pub is_key : key ≡ ring.audit_key

-- the file has some master key
abbrev pub HasMaster : List ℕ → Type 0
HasMaster master_file = (master : List ℕ) × IsMaster master_file master

-- the two files give some audit key
abbrev pub HasKey : List ℕ → List ℕ → Type 0
HasKey master_file ring_file = (key : List ℕ) × GivesKey master_file ring_file key

-- the first has a master key, and the second no ring under it
abbrev pub RingIsBad : List ℕ → List ℕ → Type 0
RingIsBad master_file ring_file = (master : List ℕ) × IsMaster master_file master × NoRing master ring_file

-- what an end says of the three files and of what was printed
abbrev pub Outcome : List ℕ → List ℕ → List ℕ → Option (List ℕ) → Option (List ℕ) → AuditStatus → Type 0
Outcome master_file ring_file log held held' ends.Usage = Grew held held' []
Outcome master_file ring_file log held held' ends.BadMaster = NoMaster master_file × Grew held held' []
Outcome master_file ring_file log held held' ends.RingRefused = RingIsBad master_file ring_file × Grew held held' []
Outcome master_file ring_file log held held' (ends.ReadFault files.Master) = Grew held held' []
Outcome master_file ring_file log held held' (ends.ReadFault files.Keystore) = HasMaster master_file × Grew held held' []
Outcome master_file ring_file log held held' (ends.ReadFault files.Audit) = HasKey master_file ring_file × Grew held held' []
Outcome master_file ring_file log held held' ends.NoMemory = Grew held held' []
Outcome master_file ring_file log held held' status = (key : List ℕ) × GivesKey master_file ring_file key × Reported key held held' status log

-- whatever the files say, the run ends so, or in a fault
pub record IsDueEnd (master_file ring_file log : List ℕ) (status : AuditStatus) : Type 0 where
  pub bad_master : NoMaster master_file → EndsSo ends.BadMaster status
  pub refused : RingIsBad master_file ring_file → EndsSo ends.RingRefused status
  pub said : (key : List ℕ) (finding : Finding) → GivesKey master_file ring_file key → Finds key log finding → EndsSo (end_of finding) status
