-- The number that digits spell, digit by digit.
use Rattle.std.proofs.Common.{◌≡◌, ℕ, ◌+◌, ◌-◌, ◌*◌, ◌<◌, ◌≤◌, List, [], ◌∷◌, ◌++◌, length, take, drop, get_or, subst, ap, ◌∙◌, refl, sym, arith}
use Rattle.std.specs.Prelude.{Option, Some, None, IfNone}
use Rattle.std.proofs.lemmas.List.{take-append-drop}
use Rattle.std.proofs.lemmas.Grind.{common_steps}
use Rattle.sql_tokens.specs.Classes.{number_from}

pub number_from-append : (n : ℕ) (xs : List ℕ) (d : ℕ) → number_from n (xs ++ d ∷ []) ≡ number_from n xs * 10 + (d - 48)
number_from-append n [] d = refl
number_from-append n (x ∷ xs) d = number_from-append (n * 10 + (x - 48)) xs d

pub number_from_step : (xs : List ℕ) (i : ℕ) → i < length xs → number_from 0 (take (i + 1) xs) ≡ number_from 0 (take i xs) * 10 + (get_or xs i 0 - 48)
number_from_step xs i h =
    let t : take (i + 1) xs ≡ take i xs ++ get_or xs i 0 ∷ [] = grind (arith, common_steps) in
    ap (number_from 0) t ∙ number_from-append 0 (take i xs) (get_or xs i 0)

number_from_cut : (n : ℕ) (xs ys : List ℕ) → number_from n (xs ++ ys) ≡ number_from (number_from n xs) ys
number_from_cut n [] ys = refl
number_from_cut n (x ∷ xs) ys = number_from_cut (n * 10 + (x - 48)) xs ys

number_from_grows : (n : ℕ) (xs : List ℕ) → n ≤ number_from n xs
number_from_grows n [] = omega arith
number_from_grows n (x ∷ xs) = let h = number_from_grows (n * 10 + (x - 48)) xs in omega arith

-- the first digits spell no more than all
pub number_from_front : (xs : List ℕ) (k : ℕ) → number_from 0 (take k xs) ≤ number_from 0 xs
number_from_front xs k =
    let e = number_from_cut 0 (take k xs) (drop k xs) in
    let t = take-append-drop k xs in
    let g = number_from_grows (number_from 0 (take k xs)) (drop k xs) in
    subst (λ m. number_from 0 (take k xs) ≤ m) (sym e ∙ ap (number_from 0) t) g

pub if_none : {A P : Type 0} (r : Option A) → P → IfNone r P
if_none None p = p
if_none (Some x) p = tt
