-- What a search for a broken rule finds.
use Rattle.std.specs.Prelude.{ℕ, ◌≡◌, ◌<◌, ◌≤◌, Bool, true, false, Option, Some, None}
use Rattle.json_rules.specs.Places.{IsFirst}
use Rattle.json_rules.specs.declared.place.Place.{Place}
use Rattle.json_rules.specs.declared.place.Place.TheVariants.{Text, Entry, Part}

-- the first entry of the part i at which the test holds
abbrev pub FirstEntry : (Place → Bool) → ℕ → Option ℕ → Type 0
FirstEntry broken i None = (j : ℕ) → broken (Entry i j) ≡ false
FirstEntry broken i (Some j) = (broken (Entry i j) ≡ true) × ((k : ℕ) → k < j → broken (Entry i k) ≡ false)

-- the first place in the part i at which the test holds
abbrev pub FoundIn : (Place → Bool) → ℕ → Option Place → Type 0
FoundIn broken i None = ((j : ℕ) → broken (Entry i j) ≡ false) × (broken (Part i) ≡ false)
FoundIn broken i (Some Text) = ⊥
FoundIn broken i (Some (Entry s j)) = (s ≡ i) × (broken (Entry s j) ≡ true) × ((k : ℕ) → k < j → broken (Entry s k) ≡ false)
FoundIn broken i (Some (Part s)) = (s ≡ i) × (broken (Part s) ≡ true) × ((k : ℕ) → broken (Entry s k) ≡ false)

-- no rule from one on, and before an end, is broken anywhere
abbrev pub AreUnbroken : (ℕ → Place → Bool) → (from end : ℕ) → Type 0
AreUnbroken broken from end = (r : ℕ) (q : Place) → from ≤ r → r < end → broken r q ≡ false

-- the least rule from one on, and before an end, that is broken, at its first place
pub record IsLeastOf (broken : ℕ → Place → Bool) (from end rule : ℕ) (place : Place) : Type 0 where
  pub low : from ≤ rule
  pub high : rule < end
  pub here : IsFirst (broken rule) place
  pub least : (r : ℕ) (q : Place) → from ≤ r → r < rule → broken r q ≡ false
