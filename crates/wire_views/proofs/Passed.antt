-- Fields that are passed over, one after the other.
use Rattle.std.proofs.Common.{◌≡◌, ℕ, zero, suc, ◌-◌, ◌+◌, ◌≤◌, ◌<◌, List, [], ◌∷◌, length, get_or, take, drop, Result, Ok, Err, refl, sym, ap, ◌∙◌, arith}
use Rattle.std.proofs.lemmas.List.{take_rest}
use Rattle.byte_reader.specs.Fields.{◌>>=◌}
use Rattle.wire_views.specs.Passing.{each_past, ended_past}

abbrev Passed : Type 0
Passed = Result (List ℕ) ℕ

module _ (step : List ℕ → Passed) (count i : ℕ) (rest : List ℕ) (total : Passed) (so_far : each_past step (count - i) rest ≡ total) where
  pub goes_on : (after : List ℕ) → i < count → step rest ≡ Ok after → each_past step (count - (i + 1)) after ≡ total
  goes_on after low first =
      let k : count - i ≡ suc (count - (i + 1)) = omega arith in
      let one : each_past step (count - i) rest ≡ each_past step (count - (i + 1)) after = rw (k, first) refl in
      sym one ∙ so_far

  pub fails : (left : ℕ) → i < count → step rest ≡ Err left → total ≡ Err left
  fails left low first =
      let k : count - i ≡ suc (count - (i + 1)) = omega arith in
      let one : each_past step (count - i) rest ≡ Err left = rw (k, first) refl in
      sym so_far ∙ one

  pub is_done : count ≤ i → total ≡ Ok rest
  is_done past =
      let k : count - i ≡ 0 = omega arith in
      let one : each_past step (count - i) rest ≡ Ok rest = rw k refl in
      sym so_far ∙ one

-- ---- up to a zero byte

none_left : (step : List ℕ → Passed) (n : ℕ) → ended_past step n [] ≡ Err 0
none_left step zero = refl
none_left step (suc n) = refl

zero_first : (step : List ℕ → Passed) (n : ℕ) (rest : List ℕ) → 1 ≤ length rest → get_or rest 0 0 ≡ 0 → ended_past step (suc n) rest ≡ Ok (drop 1 rest)
zero_first step n [] some z = absurd (omega arith)
zero_first step n (zero ∷ rest) some z = refl
zero_first step n (suc b ∷ rest) some z = absurd (omega arith)

other_first : (step : List ℕ → Passed) (n : ℕ) (rest : List ℕ) → 1 ≤ length rest → (get_or rest 0 0 ≡ 0 → ⊥) → ended_past step (suc n) rest ≡ (step rest >>= ended_past step n)
other_first step n [] some z = absurd (omega arith)
other_first step n (zero ∷ rest) some z = absurd (z refl)
other_first step n (suc b ∷ rest) some z = refl

module _ (step : List ℕ → Passed) (count i : ℕ) (rest : List ℕ) (total : Passed) (so_far : ended_past step (count - i) rest ≡ total) where
  pub list_missing : length rest ≡ 0 → total ≡ Err 0
  list_missing none = sym so_far ∙ by rest none
    where
      by : (xs : List ℕ) → length xs ≡ 0 → ended_past step (count - i) xs ≡ Err 0
      by [] e = none_left step (count - i)
      by (x ∷ xs) e = absurd (omega arith)

  pub list_ends : i < count → 1 ≤ length rest → get_or rest 0 0 ≡ 0 → total ≡ Ok (take (length rest - 1) (drop 1 rest))
  list_ends low some z =
      let k : count - i ≡ suc (count - (i + 1)) = omega arith in
      sym so_far ∙ ap (λ n. ended_past step n rest) k ∙ zero_first step (count - (i + 1)) rest some z ∙ ap Ok (sym (take_rest rest 1))

  pub list_goes_on : (after : List ℕ) → i < count → 1 ≤ length rest → (get_or rest 0 0 ≡ 0 → ⊥) → step rest ≡ Ok after → ended_past step (count - (i + 1)) after ≡ total
  list_goes_on after low some z first =
      let k : count - i ≡ suc (count - (i + 1)) = omega arith in
      sym (ap (λ n. ended_past step n rest) k ∙ other_first step (count - (i + 1)) rest some z ∙ ap (λ (r : Passed). r >>= ended_past step (count - (i + 1))) first) ∙ so_far

  pub list_fails : (left : ℕ) → i < count → 1 ≤ length rest → (get_or rest 0 0 ≡ 0 → ⊥) → step rest ≡ Err left → total ≡ Err left
  list_fails left low some z first =
      let k : count - i ≡ suc (count - (i + 1)) = omega arith in
      sym so_far ∙ ap (λ n. ended_past step n rest) k ∙ other_first step (count - (i + 1)) rest some z ∙ ap (λ (r : Passed). r >>= ended_past step (count - (i + 1))) first

  pub list_long : count ≤ i → total ≡ Err (length rest)
  list_long past = let k : count - i ≡ 0 = omega arith in sym so_far ∙ ap (λ n. ended_past step n rest) k
