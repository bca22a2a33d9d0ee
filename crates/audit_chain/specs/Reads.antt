-- A log that is read piece by piece.
use Rattle.std.specs.Prelude.{ℕ, ◌≡◌, ◌≤◌, ◌<◌, ◌+◌, ◌^◌, ◌⊎◌, List, [], ◌∷◌, ◌++◌, length, Bool, true, false, Option, Some, None, Result, Ok, Err, MatchResult}
use Rattle.acra_devices.specs.Known.{Shrank, IsAtEnd}
use Rattle.audit_chain.specs.Points.{Point, StandsBehind}
use Rattle.audit_chain.specs.Findings.{Finding, Finds, FindsIn}
use Rattle.audit_chain.specs.Walks.{IsAt, StopsIn}
use Rattle.audit_chain.specs.declared.walk.Walk.{Walk}
use Rattle.audit_chain.specs.declared.stop.Stop.{Stop}
use Rattle.audit_chain.specs.declared.stop.Stop.TheVariants as stops

-- a piece was read, none only at the end, and walked along
pub record PieceRead (key bytes : List ℕ) (left left' : Option (List ℕ)) (walk : Walk) (n room : ℕ) : Type 0 where
  pub piece : List ℕ
  pub took : Shrank left left' piece
  pub count : length piece ≡ n
  pub within : n ≤ room
  pub none : n ≡ 0 → IsAtEnd left'
  pub at : IsAt key walk (bytes ++ piece)

-- the read failed, or the walk stopped in the piece
abbrev pub PieceStops : List ℕ → List ℕ → Option (List ℕ) → Option (List ℕ) → ℕ → Stop → Type 0
PieceStops key bytes left left' room stop = (stop ≡ stops.ReadFault) ⊎ ((piece : List ℕ) × Shrank left left' piece × (length piece ≤ room) × StopsIn key (bytes ++ piece) stop)

abbrev pub ReadsPiece : Option (List ℕ) → Option (List ℕ) → Walk → Walk → ℕ → Result ℕ Stop → Type 0
ReadsPiece left left' old new room result = (key bytes : List ℕ) → IsAt key old bytes → MatchResult result (λ n. PieceRead key bytes left left' new n room) (λ stop. PieceStops key bytes left left' room stop)

-- so much was read
pub record SoFar (key : List ℕ) (left left' : Option (List ℕ)) (walk : Walk) (taken : ℕ) : Type 0 where
  pub bytes : List ℕ
  pub took : Shrank left left' bytes
  pub count : taken ≡ length bytes
  pub at : IsAt key walk bytes

-- what is found in all that was read, where the log ends there or not
pub record FoundIn (key : List ℕ) (left left' : Option (List ℕ)) (ends : Bool) (finding : Finding) : Type 0 where
  pub bytes : List ℕ
  pub took : Shrank left left' bytes
  pub within : length bytes ≤ 2 ^ 48
  pub last : ends ≡ true → IsAtEnd left' × (length bytes < 2 ^ 48)
  pub spent : finding ≡ Finding.Spent → length bytes ≡ 2 ^ 48
  pub finds : FindsIn key bytes ends finding

-- what the end of reading says
abbrev pub Ends : List ℕ → Option (List ℕ) → Option (List ℕ) → Result Point Stop → Type 0
Ends key left left' (Ok chain) = (lines : List (List ℕ)) × FoundIn key left left' true (Finding.Whole lines) × StandsBehind key lines chain
Ends key left left' (Err (stops.Broken line)) = (ends : Bool) × FoundIn key left left' ends (Finding.Broken line)
Ends key left left' (Err (stops.LineTooLong line)) = FoundIn key left left' false (Finding.Long line)
Ends key left left' (Err stops.Spent) = FoundIn key left left' false Finding.Spent
Ends key left left' (Err stops.ReadFault) = Unit {0}
Ends key left left' (Err stops.NoMemory) = Unit {0}
