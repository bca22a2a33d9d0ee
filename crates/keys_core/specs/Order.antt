-- The order of the ends: the master file comes before all else.
use Rattle.std.specs.Prelude.{ℕ, ◌≡◌, true, List, Option, None, is_some}
use Rattle.keys_core.specs.declared.status.KeyFile.TheVariants as files
use Rattle.keys_core.specs.declared.status.KeysStatus.{KeysStatus}
use Rattle.keys_core.specs.declared.status.KeysStatus.TheVariants as ends

-- BadMaster only where the master file spells no key, and what comes behind it only where it spells one
abbrev pub MasterFirst : KeysStatus → Option (List ℕ) → Type 0
MasterFirst ends.BadMaster key = key ≡ None
MasterFirst ends.Usage key = Unit {0}
MasterFirst ends.NoMemory key = Unit {0}
MasterFirst (ends.ReadFault files.Master) key = Unit {0}
MasterFirst status key = is_some key ≡ true
