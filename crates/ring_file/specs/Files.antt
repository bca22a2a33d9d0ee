-- What reading a ring's file answers.
use Rattle.std.specs.Prelude.{ℕ, ◌≡◌, ◌-◌, nat_eq, nat_le, ◌&&◌, if◌then◌else◌, List, length, take, drop, Option, Some, None, Result, Ok, Err}
use Rattle.std.specs.Cmp.Lexicographic.{pointwise}
use Rattle.acra_block.specs.Containers.{Sealing, Opening}
use Rattle.keystore.specs.Rings.{RingState}
use Rattle.ring_file.specs.declared.file.RingFault.{RingFault}
use Rattle.ring_file.specs.declared.file.RingFault.TheVariants as fault
use Rattle.ring_file.specs.Form.{mark, ring_file, IsFileRing}
use Rattle.ring_file.specs.Reading.{ring_read}
use Rattle.ring_file.specs.Fields.{IsWhole, IsFaultPlace}

-- the body of a file that begins with the mark and a nonce, where the master key opens it
abbrev pub file_body : Opening → List ℕ → List ℕ → Option (List ℕ)
file_body opened master bytes = if nat_le 16 (length bytes) && pointwise nat_eq (take 4 bytes) mark then opened master (take 12 (drop 4 bytes)) mark (drop 16 bytes) else None

-- what is read of a body: a ring, or the place of the first field that can't be so
abbrev pub IsReadBody : List ℕ → Result RingState RingFault → Type 0
IsReadBody body (Ok r) = ring_read body ≡ Ok r
IsReadBody body (Err fault.NotSealed) = ⊥
IsReadBody body (Err (fault.BadForm place)) = (left : ℕ) × (ring_read body ≡ Err left) × (place ≡ length body - left)
IsReadBody body (Err fault.NoMemory) = Unit {0}

-- what is read is made of fields from the start to the end, and a fault's place is where they end
abbrev pub IsPlaced : List ℕ → Result RingState RingFault → Type 0
IsPlaced body (Ok r) = IsWhole body
IsPlaced body (Err fault.NotSealed) = ⊥
IsPlaced body (Err (fault.BadForm place)) = IsFaultPlace body place
IsPlaced body (Err fault.NoMemory) = Unit {0}

abbrev pub IsReadFile : Option (List ℕ) → Result RingState RingFault → Type 0
IsReadFile None (Ok r) = ⊥
IsReadFile None (Err fault.NotSealed) = Unit {0}
IsReadFile None (Err (fault.BadForm place)) = ⊥
IsReadFile None (Err fault.NoMemory) = Unit {0}
IsReadFile (Some body) result = IsReadBody body result

-- the bytes spell this ring, under some nonce
pub record SpellsRing (sealed : Sealing) (master bytes : List ℕ) (r : RingState) : Type 0 where
  pub nonce : List ℕ
  pub full : length nonce ≡ 12
  pub rules : IsFileRing r
  pub made : bytes ≡ ring_file sealed master nonce r

-- what spells r is read as r, unless there is no memory
abbrev pub ReadsAs : Result RingState RingFault → RingState → Type 0
ReadsAs (Ok found) r = found ≡ r
ReadsAs (Err fault.NotSealed) r = ⊥
ReadsAs (Err (fault.BadForm place)) r = ⊥
ReadsAs (Err fault.NoMemory) r = Unit {0}
