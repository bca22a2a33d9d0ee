-- Records that load, one behind the others.
use Rattle.std.proofs.Common.{◌≡◌, ℕ, zero, suc, ◌<◌, Bool, true, false, List, [], ◌∷◌, ◌++◌, length, take, drop, get_or, refl, ap, subst, arith}
use Rattle.token_store.specs.Stores.{Store}
use Rattle.token_store.specs.Loading.{IsNextRecord, Loads, Takes}

pub loads_more : (sealed : List ℕ → List ℕ → List ℕ → List ℕ → List ℕ) (s t u : Store) (pieces : List (List ℕ)) (piece : List ℕ) → Loads sealed s pieces t → IsNextRecord sealed t u piece → Loads sealed s (pieces ++ piece ∷ []) u
loads_more sealed s t u [] piece h n = (u, subst (λ (v : Store). IsNextRecord sealed v u piece) h n, refl)
loads_more sealed s t u (p ∷ pieces) piece h n = (h.0, h.1, loads_more sealed h.0 t u pieces piece h.2 n)

-- ---- a list at a place

pub parts_at : {A : Type 0} (xs : List A) (i : ℕ) (d : A) → i < length xs → xs ≡ take i xs ++ get_or xs i d ∷ drop (suc i) xs
parts_at [] i d h = absurd (omega (arith, h))
parts_at (x ∷ xs) zero d h = refl
parts_at (x ∷ xs) (suc i) d h = ap (λ ys. x ∷ ys) (parts_at xs i d (omega (arith, h)))

pub take_more : {A : Type 0} (xs : List A) (i : ℕ) (d : A) → i < length xs → take (suc i) xs ≡ take i xs ++ get_or xs i d ∷ []
take_more [] i d h = absurd (omega (arith, h))
take_more (x ∷ xs) zero d h = refl
take_more (x ∷ xs) (suc i) d h = ap (λ ys. x ∷ ys) (take_more xs i d (omega (arith, h)))

pub took : (sealed : List ℕ → List ℕ → List ℕ → List ℕ → List ℕ) (s t : Store) (piece : List ℕ) (taken : Bool) → taken ≡ true → Takes sealed s t piece taken → IsNextRecord sealed s t piece
took sealed s t piece taken e h = subst (λ (b : Bool). Takes sealed s t piece b) e h

pub left_out : (sealed : List ℕ → List ℕ → List ℕ → List ℕ → List ℕ) (s t : Store) (piece : List ℕ) (taken : Bool) → taken ≡ false → Takes sealed s t piece taken → (next : Store) → IsNextRecord sealed s next piece → ⊥
left_out sealed s t piece taken e h = (subst (λ (b : Bool). Takes sealed s t piece b) e h).1
