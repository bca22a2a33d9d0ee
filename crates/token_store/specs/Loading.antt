-- Which tokens records spell.
use Rattle.std.specs.Prelude.{ℕ, ◌≡◌, ◌<◌, List, [], ◌∷◌, ◌++◌, length, Bool, true, false, None}
use Rattle.token_rule.specs.Rule.{Want}
use Rattle.token_records.specs.Records.{IsRecord}
use Rattle.token_store.specs.Stores.{Store, standing_in, Makes}

-- a record that the rule gives a store as its next one
pub record IsNextRecord (sealed : List ℕ → List ℕ → List ℕ → List ℕ → List ℕ) (s t : Store) (piece : List ℕ) : Type 0 where
  pub want : Want
  pub token : ℕ
  pub spelled : IsRecord sealed s.store_key piece want (length s.entries) token
  pub new : standing_in s want ≡ None
  pub makes : Makes s t want token
  pub room : length s.entries < s.limit

-- these records lead from one store to the other
abbrev pub Loads : (List ℕ → List ℕ → List ℕ → List ℕ → List ℕ) → Store → List (List ℕ) → Store → Type 0
Loads sealed s [] t = t ≡ s
Loads sealed s (piece ∷ pieces) t = (next : Store) × IsNextRecord sealed s next piece × Loads sealed next pieces t

-- the records before this index load, and the one at it doesn't behind them
pub record IsBadAt (sealed : List ℕ → List ℕ → List ℕ → List ℕ → List ℕ) (s : Store) (pieces : List (List ℕ)) (index : ℕ) : Type 0 where
  pub before : List (List ℕ)
  pub piece : List ℕ
  pub behind : List (List ℕ)
  pub parts : pieces ≡ before ++ piece ∷ behind
  pub place : index ≡ length before
  pub reached : Store
  pub loads : Loads sealed s before reached
  pub bad : (next : Store) → IsNextRecord sealed reached next piece → ⊥

-- whether the record is the next one, and what is left then
abbrev pub Takes : (List ℕ → List ℕ → List ℕ → List ℕ → List ℕ) → Store → Store → List ℕ → Bool → Type 0
Takes sealed s t piece true = IsNextRecord sealed s t piece
Takes sealed s t piece false = (t ≡ s) × ((next : Store) → IsNextRecord sealed s next piece → ⊥)
