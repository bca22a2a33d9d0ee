-- The audit key, as the folder's files give it.
use Rattle.std.specs.Prelude.{ℕ, ◌≡◌, ◌≤◌, ◌^◌, List, length, Some, None, Result, Ok, Err}
use Rattle.acra_crypto.specs.Gcm.{aes256_gcm}
use Rattle.keystore.specs.Rings.{RingState}
use Rattle.ring_file.specs.Files.{SpellsRing}
use Rattle.ring_file.specs.Master.{master_of}
use Rattle.audit_core.specs.declared.files.FileFault.{FileFault}
use Rattle.audit_core.specs.declared.files.FileFault.TheVariants as faults

-- the keystore file has at most 2^24 bytes, and spells this ring under the master key
pub record IsKeystore (master file : List ℕ) (ring : RingState) : Type 0 where
  pub short : length file ≤ 2 ^ 24
  pub spells : SpellsRing aes256_gcm master file ring

-- the file has this master key
abbrev pub IsMaster : List ℕ → List ℕ → Type 0
IsMaster file key = master_of file ≡ Some key

-- it has none
abbrev pub NoMaster : List ℕ → Type 0
NoMaster file = master_of file ≡ None

-- the file has no ring under the master key
abbrev pub NoRing : List ℕ → List ℕ → Type 0
NoRing master file = (ring : RingState) → IsKeystore master file ring → ⊥

abbrev pub MasterFound : Result (List ℕ) FileFault → List ℕ → Type 0
MasterFound (Ok key) file = IsMaster file key
MasterFound (Err faults.Refused) file = NoMaster file
MasterFound (Err faults.ReadFault) file = Unit {0}
MasterFound (Err faults.NoMemory) file = Unit {0}

abbrev pub RingFound : List ℕ → Result (List ℕ) FileFault → List ℕ → Type 0
RingFound master (Ok key) file = (ring : RingState) × IsKeystore master file ring × (key ≡ ring.audit_key)
RingFound master (Err faults.Refused) file = NoRing master file
RingFound master (Err faults.ReadFault) file = Unit {0}
RingFound master (Err faults.NoMemory) file = Unit {0}

-- this key, or a failed read or no memory
abbrev pub KeyIs : List ℕ → Result (List ℕ) FileFault → Type 0
KeyIs key (Ok found) = found ≡ key
KeyIs key (Err faults.Refused) = ⊥
KeyIs key (Err faults.ReadFault) = Unit {0}
KeyIs key (Err faults.NoMemory) = Unit {0}

-- whatever ring the file spells, its audit key is answered
abbrev pub RingDue : List ℕ → Result (List ℕ) FileFault → List ℕ → Type 0
RingDue master result file = (ring : RingState) → IsKeystore master file ring → KeyIs ring.audit_key result
