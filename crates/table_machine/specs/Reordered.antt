-- The rows of a table in another order.
use Rattle.std.specs.Prelude.{ℕ, ◌≡◌, ◌<◌, List, [], length, map, Option, Some, None, slice_get, slice_set, slice_index_or}
use Rattle.table_machine.specs.Tables.{Table}

-- a permutation of so many places: as many, each of them below that number, and none twice
pub record IsPermutationOf (places : List ℕ) (count : ℕ) : Type 0 where
  pub many : length places ≡ count
  pub below : (i : ℕ) → i < length places → slice_index_or places i 0 < count
  pub once : (i j : ℕ) → i < length places → j < length places → slice_index_or places i 0 ≡ slice_index_or places j 0 → i ≡ j

module _ {C : Type 0} where
  -- the rows at these places
  abbrev pub rows_at : List ℕ → List (List C) → List (List C)
  rows_at places rows = map (λ p. slice_index_or rows p []) places

  -- there is a table, and these are all places of its rows
  abbrev pub CanReorder : List ℕ → Option (Table C) → Type 0
  CanReorder places None = ⊥
  CanReorder places (Some t) = IsPermutationOf places (length t.rows)

  abbrev pub with_rows_at : ℕ → List ℕ → Option (Table C) → List (Table C) → List (Table C)
  with_rows_at number places None tables = tables
  with_rows_at number places (Some t) tables = slice_set tables number (record { def = t.def; rows = rows_at places t.rows })

  -- the tables, where the rows of the table of this number come into the order of these places
  abbrev pub reordered : ℕ → List ℕ → List (Table C) → List (Table C)
  reordered number places tables = with_rows_at number places (slice_get tables number) tables
