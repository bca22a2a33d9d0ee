-- A row in text form, at its end.
use Rattle.std.proofs.Common.{◌≡◌, ◌∙◌, ap, sym, subst, refl, arith, ℕ, zero, suc, ◌≤◌, min, List, [], ◌∷◌, ◌++◌, append-nil, map, length, drop, Option}
use Rattle.std.proofs.lemmas.List.{map-id}
use Rattle.table_machine.specs.declared.cell.Cell.{Cell}
use Rattle.table_machine.specs.declared.table.OutColumn.{OutColumn}
use Rattle.table_machine.specs.Tables.{spelled_row}

no_cells : (columns : List OutColumn) → spelled_row columns [] ≡ []
no_cells [] = refl
no_cells (c ∷ cs) = refl

cells_done : {X : Type 0} (f : X → Cell) (columns : List OutColumn) (xs : List X) (i : ℕ) → min (length columns) (length xs) ≤ i → spelled_row (drop i columns) (map f (drop i xs)) ≡ []
cells_done f [] xs zero h = refl
cells_done f (c ∷ cs) [] zero h = refl
cells_done f (c ∷ cs) (x ∷ xs) zero h = absurd (omega arith)
cells_done f [] xs (suc i) h = refl
cells_done f (c ∷ cs) [] (suc i) h = no_cells (drop i cs)
cells_done f (c ∷ cs) (x ∷ xs) (suc i) h = cells_done f cs xs i (omega arith)

pub shown_done : {X : Type 0} (f : X → Cell) (columns : List OutColumn) (xs : List X) (i count : ℕ) → count ≡ min (length columns) (length xs) → count ≤ i → (out all : List (Option (List ℕ)))
    → out ++ spelled_row (drop i columns) (map f (drop i xs)) ≡ all → out ≡ all
shown_done f columns xs i count is h out all inv =
    sym (ap (λ zs. out ++ zs) (cells_done f columns xs i (subst (λ n. n ≤ i) is h)) ∙ append-nil out) ∙ inv

pub row_done : (columns : List OutColumn) (row : List Cell) (i count : ℕ) → count ≡ min (length columns) (length row) → count ≤ i → (out all : List (Option (List ℕ)))
    → out ++ spelled_row (drop i columns) (drop i row) ≡ all → out ≡ all
row_done columns row i count is h out all inv =
    shown_done (λ c. c) columns row i count is h out all (ap (λ cs. out ++ spelled_row (drop i columns) cs) (map-id (drop i row)) ∙ inv)
