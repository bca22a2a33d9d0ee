-- The numbers of places, and the order that they have by them.
use Rattle.std.specs.Prelude.{ℕ, ◌≡◌, ◌<◌, ◌⊎◌}
use Rattle.json_rules.specs.declared.place.Place.{Place}
use Rattle.json_rules.specs.declared.place.Place.TheVariants.{Text, Entry, Part}

-- the numbers of a place: 65535 stands for none
abbrev pub part_number : Place → ℕ
part_number Text = 65535
part_number (Entry i j) = i
part_number (Part i) = i

abbrev pub entry_number : Place → ℕ
entry_number Text = 65535
entry_number (Entry i j) = j
entry_number (Part i) = 65535

-- the numbers of a place are below 2^16
abbrev pub Fits16 : Place → Type 0
Fits16 place = (part_number place < 65536) × (entry_number place < 65536)

-- the part's number decides, and then the entry's, of which 65535 for none is the last
abbrev pub IsLess : Place → Place → Type 0
IsLess p q = (part_number p < part_number q) ⊎ ((part_number p ≡ part_number q) × (entry_number p < entry_number q))

-- a part, or an entry of it whose number is below that for none
abbrev pub IsOfPart : Place → Type 0
IsOfPart Text = ⊥
IsOfPart (Entry i j) = j < 65535
IsOfPart (Part i) = Unit {0}
