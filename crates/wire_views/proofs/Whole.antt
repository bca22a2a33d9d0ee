-- The cells of a row that is whole.
use Rattle.std.proofs.Common.{◌≡◌, ◌≤◌, ℕ, zero, suc, ◌+◌, ◌-◌, List, [], ◌∷◌, length, drop, Option, Some, None, Result, Ok, Err, refl, sym, ap, subst, ◌∙◌, arith}
use Rattle.std.specs.List.{slice_get}
use Rattle.byte_reader.specs.Fields.{◌>>=◌}
use Rattle.pg_wire.specs.Bodies.{cell_at, items_at}
use Rattle.wire_views.specs.Rows.{found_in, cells_in, AreCells}

abbrev Cells : Type 0
Cells = Result (List (Option (List ℕ)) × List ℕ) ℕ

abbrev with_cell : Option (List ℕ) → Cells → Cells
with_cell x read = read >>= λ y. Ok (x ∷ y.0, y.1)

abbrev rest_of : Cells → List ℕ
rest_of (Ok y) = y.1
rest_of (Err left) = []

parts : (x : Option (List ℕ)) (read : Cells) → with_cell x read ≡ Ok (found_in (with_cell x read), []) → (read ≡ Ok (found_in read, [])) × (found_in (with_cell x read) ≡ x ∷ found_in read)
parts x (Ok y) h = let none : y.1 ≡ [] = ap rest_of h in (ap (λ (r : List ℕ). Ok (y.0, r)) none, refl)
parts x (Err left) h = absurd cc

first_of : (n : ℕ) (bytes : List ℕ) (x : Option (List ℕ)) (after : List ℕ) → cell_at bytes ≡ Ok (x, after) → items_at cell_at (suc n) bytes ≡ with_cell x (items_at cell_at n after)
unfolding items_at
first_of n bytes x after first = rw first refl

none_of : (n : ℕ) (bytes : List ℕ) (left : ℕ) → cell_at bytes ≡ Err left → items_at cell_at (suc n) bytes ≡ Err left
unfolding items_at
none_of n bytes left first = rw first refl

pub no_cells : (bytes : List ℕ) → cells_in 0 bytes ≡ []
unfolding items_at
no_cells bytes = refl

pub splits : (n : ℕ) (bytes : List ℕ) (x : Option (List ℕ)) (after : List ℕ) → cell_at bytes ≡ Ok (x, after) → AreCells (suc n) bytes → AreCells n after × (cells_in (suc n) bytes ≡ x ∷ cells_in n after)
splits n bytes x after first h =
    let same = first_of n bytes x after first in
    let p = parts x (items_at cell_at n after) (subst (λ (r : Cells). r ≡ Ok (found_in r, [])) same h) in
    (p.0, ap found_in same ∙ p.1)

pub not_cut : (n : ℕ) (bytes : List ℕ) (left : ℕ) → cell_at bytes ≡ Err left → AreCells (suc n) bytes → ⊥
not_cut n bytes left first h = no (subst (λ (r : Cells). r ≡ Ok (found_in r, [])) (none_of n bytes left first) h)
  where
    no : ◌≡◌ {A = Cells} (Err left) (Ok ([], [])) → ⊥
    no e = absurd cc

pub as_many : (count : ℕ) (bytes : List ℕ) → AreCells count bytes → length (cells_in count bytes) ≡ count
as_many zero bytes h = ap length (no_cells bytes)
as_many (suc n) bytes h = by (cell_at bytes) refl (λ x after p. as_many n after p)
  where
    by : (first : Result (Option (List ℕ) × List ℕ) ℕ) → cell_at bytes ≡ first → ((x : Option (List ℕ)) (after : List ℕ) → AreCells n after → length (cells_in n after) ≡ n) → length (cells_in (suc n) bytes) ≡ suc n
    by (Ok x) e behind = let s = splits n bytes x.0 x.1 e h in ap length s.1 ∙ ap suc (behind x.0 x.1 s.0)
    by (Err left) e behind = absurd (not_cut n bytes left e h)

-- bytes that are so many cells with nothing behind them
pub are_whole : (count : ℕ) (bytes : List ℕ) (seen : List (Option (List ℕ))) → items_at cell_at count bytes ≡ Ok (seen, []) → AreCells count bytes
are_whole count bytes seen h = h ∙ ap (λ (r : Cells). Ok (found_in r, [])) (sym h)

pub splits_at : (count : ℕ) (bytes : List ℕ) (x : Option (List ℕ)) (after : List ℕ) → (count ≡ 0 → ⊥) → cell_at bytes ≡ Ok (x, after) → AreCells count bytes
    → AreCells (count - 1) after × (cells_in count bytes ≡ x ∷ cells_in (count - 1) after)
splits_at zero bytes x after some first h = absurd (some refl)
splits_at (suc n) bytes x after some first h = let less : suc n - 1 ≡ n = omega arith in rw less (splits n bytes x after first h)

pub not_cut_at : (count : ℕ) (bytes : List ℕ) (left : ℕ) → (count ≡ 0 → ⊥) → cell_at bytes ≡ Err left → AreCells count bytes → ⊥
not_cut_at zero bytes left some first h = some refl
not_cut_at (suc n) bytes left some first h = not_cut n bytes left first h

-- ---- places

pub got : {A : Type 0} (xs : List A) (i : ℕ) (x : A) (more : List A) → drop i xs ≡ x ∷ more → slice_get xs i ≡ Some x
got [] zero x more h = absurd cc
got [] (suc i) x more h = absurd cc
got (y ∷ xs) zero x more h = cc
got (y ∷ xs) (suc i) x more h = got xs i x more h

pub got_none : {A : Type 0} (xs : List A) (i j : ℕ) → drop i xs ≡ [] → i ≤ j → slice_get xs j ≡ None
got_none [] i j h most = refl
got_none (y ∷ xs) zero j h most = absurd cc
got_none (y ∷ xs) (suc i) zero h most = absurd (omega (arith, most))
got_none (y ∷ xs) (suc i) (suc j) h most = got_none xs i j h (omega (arith, most))

pub dropped : {A : Type 0} (xs : List A) (i : ℕ) (x : A) (more : List A) → drop i xs ≡ x ∷ more → drop (i + 1) xs ≡ more
dropped [] zero x more h = absurd cc
dropped [] (suc i) x more h = absurd cc
dropped (y ∷ xs) zero x more h = cc
dropped (y ∷ xs) (suc i) x more h = let next : suc i + 1 ≡ suc (i + 1) = omega arith in rw next (dropped xs i x more h)
