-- One element more of a list.
use Rattle.std.proofs.Common.{◌≡◌, ◌<◌, ◌+◌, ℕ, zero, suc, List, [], ◌∷◌, ◌++◌, map, length, take, get_or, refl, sym, ap, arith, add-one, Option, Some, None}
use Rattle.std.specs.Prelude.{slice_set}
use Rattle.std.proofs.lemmas.List.{map-append}
use Rattle.table_machine.specs.declared.cell.Cell.{Cell}
use Rattle.table_rows.specs.declared.seen.Seen.{Seen}
use Rattle.table_rows.specs.Filters.{cell_at}
use Rattle.table_rows.specs.Looking.{seen}
use Rattle.table_store.specs.Changing.{chosen, chosen_rows, keys_in}

chosen_suc : (rows : List (List Cell)) (changed : List (Option (List Cell))) (i : ℕ) (d : List Cell) (e : Option (List Cell)) → i < length rows → i < length changed
    → chosen_rows (take (suc i) rows) (take (suc i) changed) ≡ chosen_rows (take i rows) (take i changed) ++ chosen (get_or rows i d) (get_or changed i e) ∷ []
chosen_suc [] changed i d e h k = absurd (omega arith)
chosen_suc (r ∷ rows) [] i d e h k = absurd (omega arith)
chosen_suc (r ∷ rows) (n ∷ changed) zero d e h k = refl
chosen_suc (r ∷ rows) (n ∷ changed) (suc i) d e h k = ap (λ w. chosen r n ∷ w) (chosen_suc rows changed i d e (omega arith) (omega arith))

pub chosen_more : (rows : List (List Cell)) (changed : List (Option (List Cell))) (i : ℕ) (d : List Cell) (e : Option (List Cell)) → i < length rows → i < length changed
    → chosen_rows (take (i + 1) rows) (take (i + 1) changed) ≡ chosen_rows (take i rows) (take i changed) ++ chosen (get_or rows i d) (get_or changed i e) ∷ []
chosen_more rows changed i d e h k = rw add-one (chosen_suc rows changed i d e h k)

-- the keys of replaced rows, one more
pub keys_more : (place : ℕ) (rows : List (List Cell)) (changed : List (Option (List Cell))) (i : ℕ) (d : List Cell) (e : Option (List Cell)) (keys : List Seen) (key : Seen)
    → i < length rows → i < length changed → map seen keys ≡ keys_in place (chosen_rows (take i rows) (take i changed))
    → seen key ≡ cell_at (chosen (get_or rows i d) (get_or changed i e)) place
    → map seen (keys ++ key ∷ []) ≡ keys_in place (chosen_rows (take (i + 1) rows) (take (i + 1) changed))
keys_more place rows changed i d e keys key h k so is =
    rw (map-append seen keys (key ∷ []), so, is, chosen_more rows changed i d e h k)
    (sym (map-append (λ row. cell_at row place) (chosen_rows (take i rows) (take i changed)) (chosen (get_or rows i d) (get_or changed i e) ∷ [])))

-- where nothing is left to be replaced
pub none_left : (rows : List (List Cell)) → chosen_rows rows [] ≡ rows
none_left [] = refl
none_left (r ∷ rows) = refl

-- the last replacement, put in its place first
pub last_kept : (rows : List (List Cell)) (xs : List (Option (List Cell))) → chosen_rows rows (xs ++ None ∷ []) ≡ chosen_rows rows xs
last_kept [] xs = refl
last_kept (r ∷ rows) [] = ap (λ w. r ∷ w) (none_left rows)
last_kept (r ∷ rows) (x ∷ xs) = ap (λ w. chosen r x ∷ w) (last_kept rows xs)

pub last_set : (rows : List (List Cell)) (xs : List (Option (List Cell))) (new : List Cell) → chosen_rows rows (xs ++ Some new ∷ []) ≡ chosen_rows (slice_set rows (length xs) new) xs
last_set [] xs new = refl
last_set (r ∷ rows) [] new = ap (λ w. new ∷ w) (none_left rows)
last_set (r ∷ rows) (x ∷ xs) new = ap (λ w. chosen r x ∷ w) (last_set rows xs new)

pub ended : (rows : List (List Cell)) (left : List (Option (List Cell))) → length left ≡ 0 → chosen_rows rows left ≡ rows
ended rows [] e = none_left rows
ended rows (x ∷ left) e = cc

pub set_length : {X : Type 0} (xs : List X) (k : ℕ) (x : X) → length (slice_set xs k x) ≡ length xs
set_length [] k x = refl
set_length (y ∷ xs) zero x = refl
set_length (y ∷ xs) (suc k) x = ap suc (set_length xs k x)
