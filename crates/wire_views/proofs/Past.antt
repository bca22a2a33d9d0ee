-- Cells that are passed over, one after the other.
use Rattle.std.proofs.Common.{◌≡◌, ℕ, ◌-◌, ◌+◌, ◌≤◌, ◌<◌, List, [], ◌∷◌, ◌++◌, Option, Result, Ok, Err, refl, arith}
use Rattle.byte_reader.specs.declared.unread.Unread.TheVariants as unread
use Rattle.pg_wire.specs.Bodies.{cell_at, items_at}
use Rattle.pg_wire.proofs.Loops.{with_front, goes_on, fails, is_done}

-- so many of the cells were passed, and these bytes follow
pub record Past (count i : ℕ) (rest bytes : List ℕ) : Type 0 where
  pub seen : List (Option (List ℕ))
  pub so_far : with_front seen (items_at cell_at (count - i) rest) ≡ items_at cell_at count bytes

none_before : {A : Type 0} (read : Result (List A × List ℕ) ℕ) → with_front [] read ≡ read
none_before (Ok x) = refl
none_before (Err left) = refl

pub begins : (count : ℕ) (bytes : List ℕ) → Past count 0 bytes bytes
begins count bytes =
    let all : count - 0 ≡ count = omega arith in
    record { seen = []; so_far = rw all (none_before (items_at cell_at count bytes)) }

pub one_more : (count i : ℕ) (rest bytes : List ℕ) (x : Option (List ℕ)) (after : List ℕ) → i < count → cell_at rest ≡ Ok (x, after) → Past count i rest bytes → Past count (i + 1) after bytes
one_more count i rest bytes x after within first p =
    record { seen = p.seen ++ x ∷ []; so_far = goes_on cell_at p.seen count i rest x after (items_at cell_at count bytes) within first p.so_far }

pub stops : (count i : ℕ) (rest bytes : List ℕ) (left : ℕ) → i < count → cell_at rest ≡ Err left → Past count i rest bytes → items_at cell_at count bytes ≡ Err left
stops count i rest bytes left within first p = fails cell_at (unread.At left) p.seen count i rest (items_at cell_at count bytes) within first p.so_far

pub ends : (count i : ℕ) (rest bytes : List ℕ) → count ≤ i → Past count i rest bytes → (seen : List (Option (List ℕ))) × (items_at cell_at count bytes ≡ Ok (seen, rest))
ends count i rest bytes most p = (p.seen, is_done cell_at p.seen count i rest (items_at cell_at count bytes) most p.so_far)
