-- The cells of a DataRow, where they lie.
use Rattle.std.specs.Prelude.{ℕ, ◌≡◌, ◌+◌, List, [], length, Option, Result, Ok, Err}
use Rattle.pg_wire.specs.Bodies.{cell_at, items_at, back_read}
use Rattle.pg_wire.specs.declared.back.Back.TheVariants as backs

abbrev pub found_in : Result (List (Option (List ℕ)) × List ℕ) ℕ → List (Option (List ℕ))
found_in (Ok x) = x.0
found_in (Err left) = []

-- as many cells as a count says
abbrev pub cells_in : ℕ → List ℕ → List (Option (List ℕ))
cells_in count bytes = found_in (items_at cell_at count bytes)

-- the bytes are so many cells, and nothing more
abbrev pub AreCells : ℕ → List ℕ → Type 0
AreCells count bytes = items_at cell_at count bytes ≡ Ok (cells_in count bytes, [])

-- a body of a DataRow is these cells, or has a fault at this offset
abbrev pub SeesRow : List ℕ → Result (List (Option (List ℕ))) ℕ → Type 0
SeesRow body (Ok cells) = back_read 68 body ≡ Ok (backs.Cells cells)
SeesRow body (Err offset) = (left : ℕ) × (back_read 68 body ≡ Err left) × (offset + left ≡ length body)
