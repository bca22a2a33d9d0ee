-- What is seen where it lies, by what reading gives. Nothing is copied, so no memory is wanted.
use Rattle.std.specs.Prelude.{ℕ, ◌≡◌, List, Result, Ok, Err}

-- what was seen is what reading gives; a fault is how many bytes are left where it stands
abbrev pub Sees : {X Y : Type 0} → (X → Y) → Result X ℕ → Result Y ℕ → Type 0
Sees view (Ok x) read = read ≡ Ok (view x)
Sees view (Err left) read = read ≡ Err left

-- only what follows was kept of what was seen
abbrev pub Skips : {X Y : Type 0} → (X → List ℕ) → Result X ℕ → Result (Y × List ℕ) ℕ → Type 0
Skips {X} {Y} rest (Ok x) read = (seen : Y) × (read ≡ Ok (seen, rest x))
Skips rest (Err left) read = read ≡ Err left
