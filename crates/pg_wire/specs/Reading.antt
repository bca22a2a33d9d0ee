-- What reading a frame answers, by what the frame spells.
use Rattle.std.specs.Prelude.{◌≡◌, ◌+◌, ℕ, List, length, Result, Ok, Err}
use Rattle.pg_wire.specs.declared.front.Front.{Front}
use Rattle.pg_wire.specs.declared.back.Back.{Back}
use Rattle.pg_wire.specs.declared.frame.ReadBody.{ReadBody}
use Rattle.pg_wire.specs.declared.frame.ReadBody.TheVariants as read
use Rattle.pg_wire.specs.Fronts.{IsFront, front_kind, front_body}
use Rattle.pg_wire.specs.Backs.{IsBack, back_kind, back_body}

-- the frame spells this message
abbrev pub SpellsFront : ℕ → List ℕ → Front → Type 0
SpellsFront kind body m = IsFront m × (kind ≡ front_kind m) × (body ≡ front_body m)

abbrev pub SpellsBack : ℕ → List ℕ → Back → Type 0
SpellsBack kind body m = IsBack m × (kind ≡ back_kind m) × (body ≡ back_body m)

-- a frame that spells m is read as m, unless there is no memory
abbrev pub ReadsAs : {M : Type 0} → Result M ReadBody → M → Type 0
ReadsAs (Ok found) m = found ≡ m
ReadsAs (Err read.NoMemory) m = Unit {0}
ReadsAs (Err (read.BodyFault offset)) m = ⊥

-- exactly what reading the body gives, unless there is no memory; a fault's offset is where so many bytes are left
abbrev pub ReadsExactly : {M : Type 0} → List ℕ → Result M ReadBody → Result M ℕ → Type 0
ReadsExactly body (Ok m) reading = reading ≡ Ok m
ReadsExactly body (Err read.NoMemory) reading = Unit {0}
ReadsExactly body (Err (read.BodyFault offset)) reading = (left : ℕ) × (reading ≡ Err left) × (offset + left ≡ length body)
