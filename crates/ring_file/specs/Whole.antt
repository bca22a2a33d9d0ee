-- A file that is read whole.
use Rattle.std.specs.Prelude.{ℕ, ◌≡◌, ◌≤◌, ◌<◌, List, length, Option, Result, Ok, Err}
use Rattle.acra_devices.specs.Known.{Shrank}
use Rattle.ring_file.specs.declared.whole.FileRefusal.{FileRefusal}
use Rattle.ring_file.specs.declared.whole.FileRefusal.TheVariants as faults

-- all bytes of the file, or it has more than the limit; a failed read or no memory may come instead
abbrev pub IsWholly : ℕ → Result (List ℕ) FileRefusal → List ℕ → Type 0
IsWholly limit (Ok bytes) file = bytes ≡ file
IsWholly limit (Err faults.TooLong) file = limit < length file
IsWholly limit (Err faults.ReadFault) file = Unit {0}
IsWholly limit (Err faults.NoMemory) file = Unit {0}

-- a front of what was left was read, of at most so many bytes
pub record TookFront (left left' : Option (List ℕ)) (most : ℕ) : Type 0 where
  pub bytes : List ℕ
  pub took : Shrank left left' bytes
  pub within : length bytes ≤ most
