-- A walk along a log, byte by byte.
use Rattle.std.specs.Prelude.{ℕ, ◌≡◌, ◌≤◌, ◌<◌, List, [], ◌∷◌, ◌++◌, length, true, Option, Result, Ok, Err, MatchResult}
use Rattle.acra_devices.specs.Known.{Shrank, IsAtEnd}
use Rattle.audit_chain.specs.Chains.{number_after}
use Rattle.audit_chain.specs.Points.{Point, StandsBehind}
use Rattle.audit_chain.specs.Findings.{is_one_line, Begins, IsBadLine, IsTooLong, IsCutShort}
use Rattle.audit_chain.specs.declared.walk.Walk.{Walk}
use Rattle.audit_chain.specs.declared.stop.Stop.{Stop}
use Rattle.audit_chain.specs.declared.stop.Stop.TheVariants as stops

-- these bytes were walked along
pub record IsAt (key : List ℕ) (walk : Walk) (bytes : List ℕ) : Type 0 where
  pub lines : List (List ℕ)
  pub begins : Begins key bytes lines walk.pending.items
  pub stands : StandsBehind key lines walk.chain
  pub single : is_one_line walk.pending.items ≡ true
  pub short : length walk.pending.items ≤ 512

-- why a walk stops that was to go along these bytes
abbrev pub StopsIn : List ℕ → List ℕ → Stop → Type 0
StopsIn key bytes (stops.Broken line) = (lines : List (List ℕ)) × (rest : List ℕ) × Begins key bytes lines rest × (line ≡ number_after (length lines)) × IsBadLine key lines rest
StopsIn key bytes (stops.LineTooLong line) = (lines : List (List ℕ)) × (rest : List ℕ) × Begins key bytes lines rest × (line ≡ number_after (length lines)) × IsTooLong rest
StopsIn key bytes stops.NoMemory = Unit {0}
StopsIn key bytes stops.ReadFault = ⊥
StopsIn key bytes stops.Spent = ⊥

-- from where it stands a walk went along these bytes, or stopped
abbrev pub Walks : {T : Type 0} → Walk → Walk → List ℕ → Result T Stop → Type 0
Walks old new piece result = (key bytes : List ℕ) → IsAt key old bytes → MatchResult result (λ _. IsAt key new (bytes ++ piece)) (λ stop. StopsIn key (bytes ++ piece) stop)

-- what a walk says that has come to the end of the log
abbrev pub EndsAt : List ℕ → List ℕ → Result Point Stop → Type 0
EndsAt key bytes (Ok chain) = (lines : List (List ℕ)) × Begins key bytes lines [] × StandsBehind key lines chain
EndsAt key bytes (Err (stops.Broken line)) = (lines : List (List ℕ)) × (rest : List ℕ) × Begins key bytes lines rest × (line ≡ number_after (length lines)) × IsCutShort rest
EndsAt key bytes (Err stop) = ⊥
