-- The file of the master key: 64 hexadecimal digits of either case, and a newline or not.
use Rattle.std.specs.Prelude.{ℕ, ◌≡◌, ◌-◌, ◌&&◌, ◌==◌, nat_le, if◌then◌else◌, List, length, take, slice_index, Option, Some, None, Result, Ok, Err}
use Rattle.hex.specs.Hex.{decode_sized}
use Rattle.ring_file.specs.declared.master.MasterFault.{MasterFault}
use Rattle.ring_file.specs.declared.master.MasterFault.TheVariants as faults

-- without a newline at its end
abbrev pub stem : List ℕ → List ℕ
stem text = if nat_le 1 (length text) && (slice_index text (length text - 1) == 10) then take (length text - 1) text else text

abbrev pub some_key : {E : Type 0} → Result (List ℕ) E → Option (List ℕ)
some_key (Ok key) = Some key
some_key (Err why) = None

-- the key that a text spells
abbrev pub master_of : List ℕ → Option (List ℕ)
master_of text = some_key (decode_sized (stem text) 32)

-- the key that is spelled, or that there is none; a failed read or no memory may come instead
abbrev pub MasterIs : Result (List ℕ) MasterFault → Option (List ℕ) → Type 0
MasterIs (Ok key) spelled = spelled ≡ Some key
MasterIs (Err faults.NoKey) spelled = spelled ≡ None
MasterIs (Err faults.ReadFault) spelled = Unit {0}
MasterIs (Err faults.NoMemory) spelled = Unit {0}
