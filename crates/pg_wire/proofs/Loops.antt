-- Reading items one after the other, as a loop does.
use Rattle.std.proofs.Common.{◌≡◌, ℕ, zero, suc, ◌-◌, ◌+◌, ◌≤◌, ◌<◌, List, [], ◌∷◌, ◌++◌, length, get_or, take, drop, Result, Ok, Err, refl, sym, ap, ◌∙◌, append_assoc, arith}
use Rattle.std.proofs.lemmas.List.{append-nil, take_rest}
use Rattle.byte_reader.specs.declared.unread.Unread.{Unread}
use Rattle.byte_reader.specs.declared.unread.Unread.TheVariants as unread
use Rattle.byte_reader.specs.Fields.{◌>>=◌}
use Rattle.pg_wire.specs.Bodies.{items_at, ended_at}
use Rattle.byte_reader.specs.Readers.{Fails}

-- what was read before, and what is still read
abbrev pub with_front : {A : Type 0} → List A → Result (List A × List ℕ) ℕ → Result (List A × List ℕ) ℕ
with_front front read = read >>= λ x. Ok (front ++ x.0, x.1)

regroup : {A : Type 0} (front : List A) (x : A) (read : Result (List A × List ℕ) ℕ) → with_front front (read >>= λ y. Ok (x ∷ y.0, y.1)) ≡ with_front (front ++ x ∷ []) read
regroup {A} front x (Ok y) = ap (λ (xs : List A). Ok (xs, y.1)) (simp append_assoc)
regroup front x (Err left) = refl

ended_by : {A : Type 0} (front : List A) (rest : List ℕ) → with_front front (Ok ([], rest)) ≡ Ok (front, rest)
ended_by {A} front rest = ap (λ (xs : List A). Ok (xs, rest)) (append-nil front)

-- ---- as many as a count says

pub goes_on : {A : Type 0} (item : List ℕ → Result (A × List ℕ) ℕ) (front : List A) (count i : ℕ) (bytes : List ℕ) (x : A) (after : List ℕ) (total : Result (List A × List ℕ) ℕ)
    → i < count → item bytes ≡ Ok (x, after) → with_front front (items_at item (count - i) bytes) ≡ total → with_front (front ++ x ∷ []) (items_at item (count - (i + 1)) after) ≡ total
unfolding items_at
goes_on item front count i bytes x after total lt h so_far =
    let k : count - i ≡ suc (count - (i + 1)) = omega arith in
    let one : with_front front (items_at item (count - i) bytes) ≡ with_front (front ++ x ∷ []) (items_at item (count - (i + 1)) after) = rw (k, h) (regroup front x (items_at item (count - (i + 1)) after)) in
    sym one ∙ so_far

pub fails : {A : Type 0} (item : List ℕ → Result (A × List ℕ) ℕ) (e : Unread) (front : List A) (count i : ℕ) (bytes : List ℕ) (total : Result (List A × List ℕ) ℕ)
    → i < count → Fails e (item bytes) → with_front front (items_at item (count - i) bytes) ≡ total → Fails e total
unfolding items_at
fails item unread.NoMemory front count i bytes total lt h so_far = tt
fails item (unread.At left) front count i bytes total lt h so_far =
    let k : count - i ≡ suc (count - (i + 1)) = omega arith in
    let one : with_front front (items_at item (count - i) bytes) ≡ Err left = rw (k, h) refl in
    sym so_far ∙ one

pub is_done : {A : Type 0} (item : List ℕ → Result (A × List ℕ) ℕ) (front : List A) (count i : ℕ) (bytes : List ℕ) (total : Result (List A × List ℕ) ℕ) → count ≤ i → with_front front (items_at item (count - i) bytes) ≡ total → total ≡ Ok (front, bytes)
unfolding items_at
is_done item front count i bytes total le so_far =
    let k : count - i ≡ 0 = omega arith in
    let one : with_front front (items_at item (count - i) bytes) ≡ Ok (front, bytes) = rw k (ended_by front bytes) in
    sym so_far ∙ one

-- ---- up to a zero byte

-- what a loop has read, with at least as many items allowed as bytes are left
pub record Listing {A : Type 0} (item : List ℕ → Result (A × List ℕ) ℕ) (front : List A) (rest : List ℕ) (total : Result (List A × List ℕ) ℕ) : Type 0 where
  pub most : ℕ
  pub enough : length rest ≤ most
  pub so_far : with_front front (ended_at item most rest) ≡ total

missing_at : {A : Type 0} (item : List ℕ → Result (A × List ℕ) ℕ) (front : List A) (n : ℕ) → with_front front (ended_at item n []) ≡ Err 0
unfolding ended_at
missing_at item front zero = refl
missing_at item front (suc n) = refl

pub list_missing : {A : Type 0} (item : List ℕ → Result (A × List ℕ) ℕ) (front : List A) (rest : List ℕ) (total : Result (List A × List ℕ) ℕ) → length rest ≡ 0 → Listing item front rest total → total ≡ Err 0
list_missing item front [] total none h = sym h.so_far ∙ missing_at item front h.most
list_missing item front (b ∷ rest) total none h = absurd (omega arith)

ends_at : {A : Type 0} (item : List ℕ → Result (A × List ℕ) ℕ) (front : List A) (n : ℕ) (rest : List ℕ) → 1 ≤ length rest → get_or rest 0 0 ≡ 0 → length rest ≤ n → with_front front (ended_at item n rest) ≡ Ok (front, drop 1 rest)
unfolding ended_at
ends_at item front zero rest some z le = absurd (omega arith)
ends_at item front (suc n) [] some z le = absurd (omega arith)
ends_at item front (suc n) (zero ∷ rest) some z le = ended_by front rest
ends_at item front (suc n) (suc b ∷ rest) some z le = absurd (omega arith)

pub list_ends : {A : Type 0} (item : List ℕ → Result (A × List ℕ) ℕ) (front : List A) (rest : List ℕ) (total : Result (List A × List ℕ) ℕ) → 1 ≤ length rest → get_or rest 0 0 ≡ 0 → Listing item front rest total → total ≡ Ok (front, take (length rest - 1) (drop 1 rest))
list_ends {A} item front rest total some z h = sym h.so_far ∙ ends_at item front h.most rest some z h.enough ∙ ap (λ (r : List ℕ). Ok (front, r)) (sym (take_rest rest 1))

goes_on_at : {A : Type 0} (item : List ℕ → Result (A × List ℕ) ℕ) (front : List A) (n : ℕ) (rest : List ℕ) (x : A) (after : List ℕ) (total : Result (List A × List ℕ) ℕ)
    → (get_or rest 0 0 ≡ 0 → ⊥) → length rest ≤ n → item rest ≡ Ok (x, after) → length after < length rest → with_front front (ended_at item n rest) ≡ total → Listing item (front ++ x ∷ []) after total
unfolding ended_at
goes_on_at item front zero rest x after total some le h shorter so_far = absurd (omega arith)
goes_on_at item front (suc n) [] x after total some le h shorter so_far = absurd (omega arith)
goes_on_at item front (suc n) (zero ∷ rest) x after total some le h shorter so_far = absurd (some refl)
goes_on_at item front (suc n) (suc b ∷ rest) x after total some le h shorter so_far =
    let one : with_front front (ended_at item (suc n) (suc b ∷ rest)) ≡ with_front (front ++ x ∷ []) (ended_at item n after) = rw h (regroup front x (ended_at item n after)) in
    record { most = n; enough = omega arith; so_far = sym one ∙ so_far }

pub list_goes_on : {A : Type 0} (item : List ℕ → Result (A × List ℕ) ℕ) (front : List A) (rest : List ℕ) (x : A) (after : List ℕ) (total : Result (List A × List ℕ) ℕ)
    → (get_or rest 0 0 ≡ 0 → ⊥) → item rest ≡ Ok (x, after) → length after < length rest → Listing item front rest total → Listing item (front ++ x ∷ []) after total
list_goes_on item front rest x after total some e shorter h = goes_on_at item front h.most rest x after total some h.enough e shorter h.so_far

fails_at : {A : Type 0} (item : List ℕ → Result (A × List ℕ) ℕ) (left : ℕ) (front : List A) (n : ℕ) (rest : List ℕ) → 1 ≤ length rest → (get_or rest 0 0 ≡ 0 → ⊥) → length rest ≤ n → item rest ≡ Err left → with_front front (ended_at item n rest) ≡ Err left
unfolding ended_at
fails_at item left front zero rest some nz le h = absurd (omega arith)
fails_at item left front (suc n) [] some nz le h = absurd (omega arith)
fails_at item left front (suc n) (zero ∷ rest) some nz le h = absurd (nz refl)
fails_at item left front (suc n) (suc b ∷ rest) some nz le h = rw h refl

pub list_fails : {A : Type 0} (item : List ℕ → Result (A × List ℕ) ℕ) (e : Unread) (front : List A) (rest : List ℕ) (total : Result (List A × List ℕ) ℕ)
    → 1 ≤ length rest → (get_or rest 0 0 ≡ 0 → ⊥) → Fails e (item rest) → Listing item front rest total → Fails e total
list_fails item unread.NoMemory front rest total some nz e h = tt
list_fails item (unread.At left) front rest total some nz e h = sym h.so_far ∙ fails_at item left front h.most rest some nz h.enough e
